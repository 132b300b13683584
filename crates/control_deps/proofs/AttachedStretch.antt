-- Only the vertices of a function's stretch hang on vertices of the function.
use Rattle.std.proofs.Common.{◌≡◌, ℕ, zero, suc, ◌+◌, ◌<◌, ◌≤◌, inl, inr, List, [], ◌∷◌, ◌++◌, length, drop, get_or, slice_get, Some, true, false, ◌==◌, append-nil, append_assoc, add-one, refl, sym, ap, ◌∙◌, arith}
use Rattle.std.specs.Prelude.{if◌then◌else◌}
use Rattle.std.proofs.lemmas.Bool.{cases_eq}
use Rattle.std.proofs.lemmas.Bool.Decides.{nat_tests}
use Rattle.std.proofs.lemmas.List.{get_or_default}
use Rattle.std.proofs.lemmas.Option.{get_or_from_slice_get}
use Rattle.dep_model.specs.declared.skeleton.Pair.{Pair}
use Rattle.dep_model.specs.declared.stretch.Stretch.{Stretch}
use Rattle.dep_model.specs.declared.vertex.Vertex.{Vertex}
use Rattle.dep_model.specs.Stretches.{IsWithin, IsStretchOf}
use Rattle.control_deps.specs.Attached.{controllers_of, controllers, attached_from}
use Rattle.control_deps.specs.Walk.{from_all}
use Rattle.dep_model.proofs.NumberedFrom.{drop_item}
use Rattle.dep_model.proofs.Stretching.{some_vertex}

none_attached : (cs : Vertex → List ℕ) (n : ℕ) (v : Vertex) (vs : List Vertex) → cs v ≡ [] → attached_from cs n (v ∷ vs) ≡ attached_from cs (suc n) vs
none_attached cs n v vs e = ap (λ ks. from_all ks n ++ attached_from cs (suc n) vs) e

-- none of the first k vertices hangs on others
none_before : (cs : Vertex → List ℕ) (n k : ℕ) (vs : List Vertex) → k ≤ length vs → ((v : ℕ) (x : Vertex) → v < k → slice_get vs v ≡ Some x → cs x ≡ []) → attached_from cs n vs ≡ attached_from cs (n + k) (drop k vs)
none_before cs n zero vs le none = let e : n ≡ n + 0 = omega arith in ap (λ m. attached_from cs m vs) e
none_before cs n (suc k) [] le none = absurd (omega (arith, le))
none_before cs n (suc k) (v ∷ vs) le none =
    let e : suc n + k ≡ n + suc k = omega arith in
    none_attached cs n v vs (none 0 v (omega arith) refl) ∙ none_before cs (suc n) k vs (omega (arith, le)) (λ u x lt at. none (suc u) x (omega (arith, lt)) at) ∙ ap (λ m. attached_from cs m (drop k vs)) e

-- none from the k-th on does
none_behind : (cs : Vertex → List ℕ) (n k : ℕ) (vs : List Vertex) → ((v : ℕ) (x : Vertex) → k ≤ v → slice_get vs v ≡ Some x → cs x ≡ []) → attached_from cs n (drop k vs) ≡ []
none_behind cs n zero [] none = refl
none_behind cs n zero (v ∷ vs) none = none_attached cs n v vs (none 0 v (omega arith) refl) ∙ none_behind cs (suc n) zero vs (λ u x le at. none (suc u) x (omega arith) at)
none_behind cs n (suc k) [] none = refl
none_behind cs n (suc k) (v ∷ vs) none = none_behind cs n k vs (λ u x le at. none (suc u) x (omega (arith, le)) at)

module _ (vs : List Vertex) (f : ℕ) (s : Stretch) (of : IsStretchOf vs f s) (entry : List ℕ) (own : ℕ → List ℕ) where
  abbrev cs : Vertex → List ℕ
  cs = controllers entry own f

  outside : (v : ℕ) (x : Vertex) → (IsWithin s v → ⊥) → slice_get vs v ≡ Some x → cs x ≡ []
  outside v x out at = elim (cases_eq x.function f) [
    | inl e ↦ absurd (out ((of.all v).0 (record { vertex = x; at = at; in_function = e })))
    | inr e ↦ let other : (x.function == f) ≡ false = grind (arith, nat_tests) in ap (λ b. if b then controllers_of entry own x.kind else []) other
  ]

  -- none of the function's vertices was looked at
  pub attached_begin : (none : List Pair) → none ++ attached_from cs s.first (drop s.first vs) ≡ none ++ attached_from cs 0 vs
  attached_begin none =
      let room = of.inside in
      let same : 0 + s.first ≡ s.first = omega arith in
      ap (λ xs. none ++ xs) (sym (none_before cs 0 s.first vs (omega (arith, room)) (λ v x lt at. outside v x (λ w. let low = w.0 in omega (arith, low, lt)) at) ∙ ap (λ n. attached_from cs n (drop s.first vs)) same))

  -- all were
  pub attached_end : (found whole : List Pair) (n : ℕ) → s.first + s.size ≤ n → found ++ attached_from cs n (drop n vs) ≡ whole → found ≡ whole
  attached_end found whole n past all =
      let nothing = none_behind cs n n vs (λ v x le at. outside v x (λ w. let high = w.1 in omega (arith, high, le, past)) at) in
      sym (append-nil found) ∙ ap (λ xs. found ++ xs) (sym nothing) ∙ all

  -- one more was
  pub attached_more : (n : ℕ) (found new whole : List Pair) → IsWithin s n → found ++ attached_from cs n (drop n vs) ≡ whole → new ≡ found ++ from_all (controllers_of entry own (get_or vs n some_vertex).kind) n → new ++ attached_from cs (n + 1) (drop (n + 1) vs) ≡ whole
  attached_more n found new whole within all is =
      let v = get_or vs n some_vertex in
      let room = of.inside in
      let high = within.1 in
      let low : n < length vs = omega (arith, room, high) in
      let own_one = (of.all n).1 within in
      let at : v ≡ own_one.vertex = get_or_from_slice_get vs n own_one.vertex some_vertex own_one.at in
      let function_is : v.function ≡ f = ap (λ (y : Vertex). y.function) at ∙ own_one.in_function in
      let here : (v.function == f) ≡ true = grind (arith, nat_tests) in
      let more = attached_from cs (n + 1) (drop (n + 1) vs) in
      let one : cs v ≡ controllers_of entry own v.kind = ap (λ b. if b then controllers_of entry own v.kind else []) here in
      let next : attached_from cs n (drop n vs) ≡ from_all (cs v) n ++ more =
      ap (attached_from cs n) (drop_item vs n v low (get_or_default vs n v some_vertex low)) ∙ ap (λ k. from_all (cs v) n ++ attached_from cs k (drop (n + 1) vs)) (sym (add-one n)) in
      ap (λ xs. xs ++ more) is ∙ append_assoc found (from_all (controllers_of entry own v.kind) n) more ∙ ap (λ ks. found ++ (from_all ks n ++ more)) (sym one) ∙ ap (λ xs. found ++ xs) (sym next) ∙ all
