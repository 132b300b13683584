-- The numbers of vertices that pass a test, one vertex after another.
use Rattle.std.proofs.Common.{◌≡◌, ℕ, suc, ◌+◌, ◌<◌, List, [], ◌∷◌, ◌++◌, length, drop, get_or, Bool, true, false, append_assoc, add-one, drop-cons, refl, sym, ap, ◌∙◌}
use Rattle.std.specs.Prelude.{if◌then◌else◌}
use Rattle.dep_model.specs.declared.vertex.Vertex.{Vertex}
use Rattle.dep_model.specs.FunctionVertices.{numbers_from}

pub drop_item : {X : Type 0} (xs : List X) (i : ℕ) (x : X) → i < length xs → get_or xs i x ≡ x → drop i xs ≡ x ∷ drop (i + 1) xs
drop_item xs i x lt is = rw (add-one) (drop-cons xs i x lt ∙ ap (λ y. y ∷ drop (suc i) xs) is)

one_number : (test : Vertex → Bool) (n : ℕ) (v : Vertex) (vs : List Vertex) (b : Bool) → test v ≡ b → numbers_from test n (v ∷ vs) ≡ (if b then n ∷ [] else []) ++ numbers_from test (suc n) vs
one_number test n v vs true e = rw e refl
one_number test n v vs false e = rw e refl

-- one more vertex was looked at
pub numbers_turn : (test : Vertex → Bool) (vs : List Vertex) (i : ℕ) (v : Vertex) (n : ℕ) (found new whole : List ℕ) → i < length vs → get_or vs i v ≡ v → found ++ numbers_from test n (drop i vs) ≡ whole → new ≡ found ++ (if test v then n ∷ [] else []) → new ++ numbers_from test (n + 1) (drop (i + 1) vs) ≡ whole
numbers_turn test vs i v n found new whole lt is inv now =
    let next : numbers_from test (n + 1) (drop (i + 1) vs) ≡ numbers_from test (suc n) (drop (i + 1) vs) = ap (λ k. numbers_from test k (drop (i + 1) vs)) (add-one n) in
    ap (λ xs. xs ++ numbers_from test (n + 1) (drop (i + 1) vs)) now ∙ append_assoc found (if test v then n ∷ [] else []) (numbers_from test (n + 1) (drop (i + 1) vs)) ∙ ap (λ xs. found ++ ((if test v then n ∷ [] else []) ++ xs)) next ∙ ap (λ xs. found ++ xs) (sym (one_number test n v (drop (i + 1) vs) (test v) refl)) ∙ ap (λ xs. found ++ numbers_from test n xs) (sym (drop_item vs i v lt is)) ∙ inv
