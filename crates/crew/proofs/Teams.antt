-- Workers numbered from 1, each with its seat.
use Rattle.std.proofs.Common.{◌≡◌, ℕ, zero, suc, ◌+◌, ◌<◌, List, [], ◌∷◌, ◌++◌, length, get_or, refl, ap, arith}
use Rattle.crew.specs.Team.{numbered}

module _ {S : Type 0} where
  pub numbered_snoc : (n : ℕ) (ss : List S) (s : S) (m : ℕ) → m ≡ n + length ss → numbered n (ss ++ s ∷ []) ≡ numbered n ss ++ (m, s) ∷ []
  numbered_snoc n [] s m e = let p : n ≡ m = omega arith in ap (λ (k : ℕ). (k, s) ∷ []) p
  numbered_snoc n (x ∷ xs) s m e = ap (λ ps. (n, x) ∷ ps) (numbered_snoc (n + 1) xs s m (omega arith))

  pub length_numbered : (n : ℕ) (ss : List S) → length (numbered n ss) ≡ length ss
  length_numbered n [] = refl
  length_numbered n (s ∷ ss) = ap suc (length_numbered (n + 1) ss)

  -- the pair at a place has the worker of that place, and the seat there
  pub numbered_read : (n : ℕ) (ss : List S) (i : ℕ) (x : ℕ × S) → i < length ss → x ≡ get_or (numbered n ss) i x → (x.0 ≡ n + i) × (x.1 ≡ get_or ss i x.1)
  numbered_read n [] i x h e = absurd (omega arith)
  numbered_read n (y ∷ ys) zero x h e = (let p : x.0 ≡ n = ap (λ (q : ℕ × S). q.0) e in omega arith, ap (λ (q : ℕ × S). q.1) e)
  numbered_read n (y ∷ ys) (suc i) x h e = let r = numbered_read (n + 1) ys i x (omega arith) e in (let p = r.0 in omega arith, r.1)
