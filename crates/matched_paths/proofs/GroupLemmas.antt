-- Rows of edges in groups, where one of them grows.
use Rattle.std.proofs.Common.{◌≡◌, ℕ, zero, suc, ◌<◌, List, [], ◌∷◌, ◌++◌, map, length, set, get_or, Vec, Global, append-nil, arith, refl, sym, ap, ◌∙◌}
use Rattle.std.proofs.lemmas.Bool.Decides.{nat_tests}
use Rattle.std.specs.Prelude.{Bool, false, ◌==◌, if◌then◌else◌}
use Rattle.dep_model.specs.declared.edge.Edge.{Edge}
use Rattle.matched_paths.specs.EdgeGroups.{if_group}

abbrev edges_in : Vec Edge Global → List Edge
edges_in r = r.items

with_test : (a b : ℕ) (e : Edge) (t : Bool) → (a == b) ≡ t → if_group a b e ≡ (if t then e ∷ [] else [])
with_test a b e t h = ap (λ x. if x then e ∷ [] else []) h

none_at_next : (i : ℕ) (e : Edge) → if_group 0 (suc i) e ≡ []
none_at_next i e = let h : (0 == suc i) ≡ false = grind (arith, nat_tests) in with_test 0 (suc i) e false h

none_at_first : (i : ℕ) (e : Edge) → if_group (suc i) 0 e ≡ []
none_at_first i e = let h : (suc i == 0) ≡ false = grind (arith, nat_tests) in with_test (suc i) 0 e false h

next_to_next : (i j : ℕ) (e : Edge) → if_group (suc i) (suc j) e ≡ if_group i j e
next_to_next i j e = let h : (suc i == suc j) ≡ (i == j) = grind (arith, nat_tests) in ap (λ x. if x then e ∷ [] else []) h

-- an edge is added at the end of the row
pub exit_added : (t : List (Vec Edge Global)) (at : ℕ) (old new : Vec Edge Global) (e : Edge) → at < length t → old ≡ get_or t at old → new.items ≡ old.items ++ e ∷ [] → (c : ℕ) → get_or (map edges_in (set t at new)) c [] ≡ get_or (map edges_in t) c [] ++ if_group at c e
exit_added [] at old new e lt is grown c = absurd (omega (arith, lt))
exit_added (x ∷ t) zero old new e lt is grown zero = grown ∙ ap (λ (r : Vec Edge Global). r.items ++ e ∷ []) is
exit_added (x ∷ t) zero old new e lt is grown (suc c) = sym (append-nil (get_or (map edges_in t) c [])) ∙ ap (λ more. get_or (map edges_in t) c [] ++ more) (sym (none_at_next c e))
exit_added (x ∷ t) (suc at) old new e lt is grown zero = sym (append-nil x.items) ∙ ap (λ more. x.items ++ more) (sym (none_at_first at e))
exit_added (x ∷ t) (suc at) old new e lt is grown (suc c) =
    exit_added t at old new e (omega (arith, lt)) is grown c ∙ ap (λ more. get_or (map edges_in t) c [] ++ more) (sym (next_to_next at c e))

-- an empty row is added
pub row_added : (t : List (Vec Edge Global)) (new : Vec Edge Global) → new.items ≡ [] → (c : ℕ) → get_or (map edges_in (t ++ new ∷ [])) c [] ≡ get_or (map edges_in t) c []
row_added [] new is zero = is
row_added [] new is (suc c) = refl
row_added (x ∷ t) new is zero = refl
row_added (x ∷ t) new is (suc c) = row_added t new is c
