-- The order of pairs, as sorting has it.
use Rattle.std.proofs.Common.{◌≡◌, ℕ, ◌<◌, inl, inr, Bool, true, arith, refl, sym, ap, ◌∙◌}
use Rattle.std.specs.Prelude.{◌&&◌, nat_eq}
use Rattle.std.specs.Cmp.{IsTotalOrder, IsEquivalence}
use Rattle.std.specs.declared.cmp.Ordering.{Ordering}
use Rattle.std.specs.declared.cmp.Ordering.TheVariants.{Less, Equal, Greater}
use Rattle.std.specs.Ordering.{MatchOrdering, nat_cmp, ordering_then, is_eq, eq_by_cmp}
use Rattle.std.proofs.lemmas.Bool.Decides.{nat_tests}
use Rattle.std.proofs.lemmas.Cmp.{nat_cmp_total, on_total, then_total, ranked, nat_eq_equiv, on_equiv, and_equiv}
use Rattle.std.proofs.lemmas.Bool.{and_parts}
use Rattle.dep_model.specs.declared.skeleton.Pair.{Pair}
use Rattle.dep_model.specs.PairOrder.{precedes}

abbrev pub pair_cmp : Pair → Pair → Ordering
pair_cmp = λ (x y : Pair). ordering_then (nat_cmp x.from y.from) (nat_cmp x.to y.to)

abbrev pub pair_eq : Pair → Pair → Bool
pair_eq = λ (x y : Pair). nat_eq x.from y.from && nat_eq x.to y.to

pub pair_total : IsTotalOrder pair_cmp
pair_total = then_total (on_total (λ (p : Pair). p.from) nat_cmp_total) (on_total (λ (p : Pair). p.to) nat_cmp_total)

pub pair_equiv : IsEquivalence pair_eq
pair_equiv = and_equiv (on_equiv (λ (p : Pair). p.from) nat_eq_equiv) (on_equiv (λ (p : Pair). p.to) nat_eq_equiv)

tie : (a b : ℕ) → nat_eq a b ≡ is_eq (nat_cmp a b)
tie a b = grind (arith, nat_tests)

both_tie : (o p : Ordering) → is_eq (ordering_then o p) ≡ (is_eq o && is_eq p)
both_tie Less p = refl
both_tie Equal p = refl
both_tie Greater p = refl

pub pair_ties : (x y : Pair) → pair_eq x y ≡ eq_by_cmp pair_cmp x y
pair_ties x y =
    ap (λ b. b && nat_eq x.to y.to) (tie x.from y.from) ∙ ap (λ b. is_eq (nat_cmp x.from y.from) && b) (tie x.to y.to) ∙ sym (both_tie (nat_cmp x.from y.from) (nat_cmp x.to y.to))

same_number : (a b : ℕ) → nat_eq a b ≡ true → a ≡ b
same_number a b h = grind (arith, nat_tests)

pub pair_same : (x y : Pair) → pair_eq x y ≡ true → x ≡ y
pair_same x y h =
    let t = and_parts (nat_eq x.from y.from) (nat_eq x.to y.to) h in
    ap (λ n. record { from = n; to = x.to }) (same_number x.from y.from t.0) ∙ ap (λ n. record { from = y.from; to = n }) (same_number x.to y.to t.1)

less_precedes : (x y : Pair) (o p : Ordering) → MatchOrdering o (x.from < y.from) (x.from ≡ y.from) (y.from < x.from) → MatchOrdering p (x.to < y.to) (x.to ≡ y.to) (y.to < x.to) → ordering_then o p ≡ Less → precedes x y
less_precedes x y Less p lt q e = inl lt
less_precedes x y Equal Less eq lt e = inr (eq, lt)
less_precedes x y Equal Equal eq q e = let f : Equal ≡ Less = e in absurd cc
less_precedes x y Equal Greater eq q e = let f : Greater ≡ Less = e in absurd cc
less_precedes x y Greater p gt q e = let f : Greater ≡ Less = e in absurd cc

pub precedes_by_cmp : (x y : Pair) → pair_cmp x y ≡ Less → precedes x y
precedes_by_cmp x y e =
    less_precedes x y (nat_cmp x.from y.from) (nat_cmp x.to y.to) (ranked x.from y.from (nat_cmp x.from y.from) refl) (ranked x.to y.to (nat_cmp x.to y.to) refl) e
