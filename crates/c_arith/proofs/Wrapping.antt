-- Numbers that differ by a multiple of m, and the one among them that lies in a range of m numbers.
use Rattle.std.proofs.Common.{◌≡◌, ℕ, ◌+◌, ◌-◌, ◌*◌, ◌/◌, ◌%◌, ◌<◌, ℤ, pos, negsuc, ◌+ℤ◌, ◌-ℤ◌, ◌≤ℤ◌, ◌<ℤ◌, arith, refl, sym, ap, ◌∙◌, mod-lt, mod-eq_of_lt, div-add-mod'}
use Rattle.std.proofs.Math.Nat.{add-mul-mod_self_right}
use Rattle.std.proofs.lemmas.Int.{ints, int_rem_euclid_is}
use Rattle.std.specs.Int.{int_rem_euclid}
use borrow.Author.Differences.{up, down}
use Rattle.c_arith.specs.IntType.{IsCongruent}

-- the number from l to below l + m that differs from z by a multiple of m
abbrev pub wrapped : ℤ → ℕ → ℤ → ℤ
wrapped l m z = l +ℤ int_rem_euclid (z -ℤ l) (pos m)

pub IsCongruent-sym : {m : ℕ} {a b : ℤ} → IsCongruent m a b → IsCongruent m b a
IsCongruent-sym c = record { more = c.less; less = c.more; same = sym c.same }

pub IsCongruent-trans : {m : ℕ} {a b c : ℤ} → IsCongruent m a b → IsCongruent m b c → IsCongruent m a c
IsCongruent-trans p q =
    let first = p.same in
    let second = q.same in
    record { more = p.more + q.more; less = p.less + q.less; same = omega (arith, ints) }

-- so do they by a multiple of what divides m
pub IsCongruent-divisor : (m n d : ℕ) {a b : ℤ} → d * n ≡ m → IsCongruent m a b → IsCongruent n a b
IsCongruent-divisor m n d e c =
    let same = c.same in
    let more = ap (λ x. c.more * x) e in
    let less = ap (λ x. c.less * x) e in
    record { more = c.more * d; less = c.less * d; same = omega (arith, ints) }

-- what is left of z modulo m: a natural number below m
pub record Residue (m : ℕ) (z : ℤ) : Type 0 where
  pub left : ℕ
  pub is : int_rem_euclid z (pos m) ≡ pos left
  pub below : left < m
  pub near : IsCongruent m (pos left) z

pub residue : (m : ℕ) (z : ℤ) → 0 < m → Residue m z
residue m (pos a) p = record {
  left = a % m;
  is = refl;
  below = mod-lt a p;
  near = record { more = a / m; less = 0; same = omega (arith, ints, div-add-mod' a m) };
}
residue m (negsuc a) p =
    let small = mod-lt a p in
    record {
      left = m - 1 - a % m;
      is = refl;
      below = omega arith;
      near = record { more = 0; less = a / m + 1; same = omega (arith, ints, div-add-mod' a m) };
    }

module _ (l : ℤ) (m : ℕ) (z : ℤ) (positive : 0 < m) where
  pub wrapped-least : l ≤ℤ wrapped l m z
  wrapped-least =
      let r = residue m (z -ℤ l) positive in
      rw r.is (omega (arith, ints))

  pub wrapped-greatest : wrapped l m z <ℤ (l +ℤ pos m)
  wrapped-greatest =
      let r = residue m (z -ℤ l) positive in
      let below = r.below in
      rw r.is (omega (arith, ints))

  pub wrapped-congruent : IsCongruent m (wrapped l m z) z
  wrapped-congruent =
      let r = residue m (z -ℤ l) positive in
      let near = r.near.same in
      record { more = r.near.more; less = r.near.less; same = rw r.is (omega (arith, ints)) }

-- no other number does
pub wrapped_unique : (l : ℤ) (m : ℕ) (z r : ℤ) → l ≤ℤ r → r <ℤ (l +ℤ pos m) → IsCongruent m r z → wrapped l m z ≡ r
wrapped_unique l m z r from to c =
    let same = c.same in
    let y : ℕ = (up r + down l) - (up l + down r) in
    let small : y < m = omega (arith, ints) in
    let rest : int_rem_euclid (z -ℤ l) (pos m) ≡ pos ((y + c.more * m) % m) =
    int_rem_euclid_is (z -ℤ l) (pos m) m c.less (y + c.more * m) (omega arith) refl (omega (arith, ints)) in
    let left : (y + c.more * m) % m ≡ y = add-mul-mod_self_right y c.more m ∙ mod-eq_of_lt small in
    rw (rest, left) (omega (arith, ints))
