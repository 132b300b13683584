-- Rows of items, where one of them grows.
use Rattle.std.proofs.Common.{◌≡◌, ℕ, zero, suc, ◌<◌, List, [], ◌∷◌, ◌++◌, length, set, get_or, Vec, Global, append-nil, arith, sym, ap, ◌∙◌}
use Rattle.std.proofs.lemmas.Bool.Decides.{nat_tests}
use Rattle.std.specs.Prelude.{Bool, false, ◌==◌, if◌then◌else◌}
use Rattle.completion.specs.Rows.{row, if_same}

with_test : {A : Type 0} (i at : ℕ) (x : A) (t : Bool) → (at == i) ≡ t → if_same i at x ≡ (if t then x ∷ [] else [])
with_test i at x t h = ap (λ b. if b then x ∷ [] else []) h

none_at_next : {A : Type 0} (i : ℕ) (x : A) → if_same (suc i) 0 x ≡ []
none_at_next i x = let h : (0 == suc i) ≡ false = grind (arith, nat_tests) in with_test (suc i) 0 x false h

none_at_first : {A : Type 0} (at : ℕ) (x : A) → if_same 0 (suc at) x ≡ []
none_at_first at x = let h : (suc at == 0) ≡ false = grind (arith, nat_tests) in with_test 0 (suc at) x false h

next_to_next : {A : Type 0} (i at : ℕ) (x : A) → if_same (suc i) (suc at) x ≡ if_same i at x
next_to_next i at x = let h : (suc at == suc i) ≡ (at == i) = grind (arith, nat_tests) in ap (λ b. if b then x ∷ [] else []) h

-- an item is added at the end of the row
pub row_grown : {A : Type 0} (t : List (Vec A Global)) (at : ℕ) (old new : Vec A Global) (x : A) → at < length t → old ≡ get_or t at old → new.items ≡ old.items ++ x ∷ [] → (i : ℕ) → row (set t at new) i ≡ row t i ++ if_same i at x
row_grown [] at old new x lt is grown i = absurd (omega (arith, lt))
row_grown {A} (r ∷ t) zero old new x lt is grown zero = grown ∙ ap (λ (q : Vec A Global). q.items ++ x ∷ []) is
row_grown (r ∷ t) zero old new x lt is grown (suc i) = sym (append-nil (row t i)) ∙ ap (λ more. row t i ++ more) (sym (none_at_next i x))
row_grown (r ∷ t) (suc at) old new x lt is grown zero = sym (append-nil r.items) ∙ ap (λ more. r.items ++ more) (sym (none_at_first at x))
row_grown (r ∷ t) (suc at) old new x lt is grown (suc i) =
    row_grown t at old new x (omega (arith, lt)) is grown i ∙ ap (λ more. row t i ++ more) (sym (next_to_next i at x))
