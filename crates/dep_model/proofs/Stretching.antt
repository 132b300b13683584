-- The stretch of a function's vertices, and the numbers of those among them that pass a test.
use Rattle.std.proofs.Common.{◌≡◌, ℕ, zero, suc, ◌+◌, ◌-◌, ◌<◌, ◌≤◌, inl, inr, List, [], ◌∷◌, ◌++◌, length, drop, get_or, slice_get, Some, Bool, true, false, ◌&&◌, ◌==◌, leb, ltb, leb-true, append-nil, refl, sym, ap, ◌∙◌, arith}
use Rattle.std.specs.Prelude.{if◌then◌else◌}
use Rattle.std.specs.List.Sorted.{IsPartitionPoint}
use Rattle.std.proofs.lemmas.Bool.{cases_lt, cases_eq, ltb-true, ltb-false, leb-false}
use Rattle.std.proofs.lemmas.Bool.Decides.{nat_tests}
use Rattle.std.proofs.lemmas.List.{get_or_default}
use Rattle.std.proofs.lemmas.Option.{slice_get-get_or, get_or_from_slice_get, slice_get_within}
use Rattle.dep_model.specs.declared.stretch.Stretch.{Stretch}
use Rattle.dep_model.specs.declared.vertex.Vertex.{Vertex}
use Rattle.dep_model.specs.declared.vertex.VertexKind.{VertexKind}
use Rattle.dep_model.specs.declared.vertex.VertexKind.TheVariants.{Entry}
use Rattle.dep_model.specs.Facts.{IsIn}
use Rattle.dep_model.specs.FunctionVertices.{passes, numbers, numbers_from}
use Rattle.dep_model.specs.Groups.{if_is}
use Rattle.dep_model.specs.Stretches.{IsWithin, IsStretchOf}
use Rattle.dep_model.proofs.NumberedFrom.{numbers_turn}

abbrev pub some_vertex : Vertex
some_vertex = record { function = 0; kind = Entry }

-- ---- the vertices of lower functions, and those of no higher ones, end where the stretch begins and ends

module _ (vs : List Vertex) (f first last : ℕ) (first_in : first ≤ length vs) (last_in : last ≤ length vs)
    (lower : IsPartitionPoint (λ (v : Vertex). ltb v.function f ≡ true) (λ (v : Vertex). ltb v.function f ≡ false) vs first)
    (higher : IsPartitionPoint (λ (v : Vertex). leb v.function f ≡ true) (λ (v : Vertex). leb v.function f ≡ false) vs last) where
  pub in_turn : first ≤ last
  in_turn = elim (cases_lt last first) [
    | inl h ↦
        let x = get_or vs last some_vertex in
        let below = ltb-true x.function f (lower.0 last some_vertex (omega arith) h) in
        let above = leb-false x.function f (higher.1 last some_vertex (omega arith) (omega (arith, h, first_in))) in
        absurd (omega (arith, below, above))
    | inr h ↦ h
  ]

  inside_of : (v : ℕ) → IsIn vs f v → IsWithin (record { first = first; size = last - first }) v
  inside_of v w =
      let x = w.vertex in
      let own = w.in_function in
      let low = slice_get_within vs v x w.at in
      let here : get_or vs v x ≡ x = get_or_from_slice_get vs v x x w.at in
      let same : (get_or vs v x).function ≡ f = ap (λ (y : Vertex). y.function) here ∙ own in
      let turn = in_turn in
      let from : first ≤ v = elim (cases_lt v first) [
        | inl h ↦ let below = ltb-true (get_or vs v x).function f (lower.0 v x (omega arith) h) in absurd (omega (arith, below, same))
        | inr h ↦ h
      ] in
      let to : v < last = elim (cases_lt v last) [
        | inl h ↦ h
        | inr h ↦ let above = leb-false (get_or vs v x).function f (higher.1 v x h low) in absurd (omega (arith, above, same))
      ] in
      (from, omega (arith, to, turn))

  of_inside : (v : ℕ) → IsWithin (record { first = first; size = last - first }) v → IsIn vs f v
  of_inside v w =
      let from : first ≤ v = w.0 in
      let to : v < first + (last - first) = w.1 in
      let turn = in_turn in
      let below : v < last = omega (arith, to, turn) in
      let low : v < length vs = omega (arith, below, last_in) in
      let x = get_or vs v some_vertex in
      let up = ltb-false x.function f (lower.1 v some_vertex from low) in
      let down = leb-true x.function f (higher.0 v some_vertex (omega arith) below) in
      record { vertex = x; at = slice_get-get_or vs v some_vertex low; in_function = omega (arith, up, down) }

  pub stretch_found : IsStretchOf vs f (record { first = first; size = last - first })
  stretch_found = record { inside = let turn = in_turn in omega (arith, turn, last_in); all = λ v. (inside_of v, of_inside v) }

-- ---- numbers of vertices that pass

none_number : (test : Vertex → Bool) (n : ℕ) (v : Vertex) (vs : List Vertex) → test v ≡ false → numbers_from test n (v ∷ vs) ≡ numbers_from test (suc n) vs
none_number test n v vs e = ap (λ b. if b then n ∷ numbers_from test (suc n) vs else numbers_from test (suc n) vs) e

-- none of the first k vertices passes
none_before : (test : Vertex → Bool) (n k : ℕ) (vs : List Vertex) → k ≤ length vs → ((v : ℕ) (x : Vertex) → v < k → slice_get vs v ≡ Some x → test x ≡ false) → numbers_from test n vs ≡ numbers_from test (n + k) (drop k vs)
none_before test n zero vs le none = let e : n ≡ n + 0 = omega arith in ap (λ m. numbers_from test m vs) e
none_before test n (suc k) [] le none = absurd (omega (arith, le))
none_before test n (suc k) (v ∷ vs) le none =
    let e : suc n + k ≡ n + suc k = omega arith in
    none_number test n v vs (none 0 v (omega arith) refl)
    ∙ none_before test (suc n) k vs (omega (arith, le)) (λ u x lt at. none (suc u) x (omega (arith, lt)) at)
    ∙ ap (λ m. numbers_from test m (drop k vs)) e

-- none from the k-th on passes
none_behind : (test : Vertex → Bool) (n k : ℕ) (vs : List Vertex) → ((v : ℕ) (x : Vertex) → k ≤ v → slice_get vs v ≡ Some x → test x ≡ false) → numbers_from test n (drop k vs) ≡ []
none_behind test n zero [] none = refl
none_behind test n zero (v ∷ vs) none = none_number test n v vs (none 0 v (omega arith) refl) ∙ none_behind test (suc n) zero vs (λ u x le at. none (suc u) x (omega arith) at)
none_behind test n (suc k) [] none = refl
none_behind test n (suc k) (v ∷ vs) none = none_behind test n k vs (λ u x le at. none (suc u) x (omega (arith, le)) at)

other_fails : (b : Bool) (g f : ℕ) → (g ≡ f → ⊥) → ((g == f) && b) ≡ false
other_fails b g f h = elim (cases_eq g f) [
  | inl e ↦ absurd (h e)
  | inr e ↦ let not : (g == f) ≡ false = grind (arith, nat_tests) in ap (λ t. t && b) not
]

own_test : (b : Bool) (g f : ℕ) → g ≡ f → ((g == f) && b) ≡ b
own_test b g f h = let is : (g == f) ≡ true = grind (arith, nat_tests) in ap (λ t. t && b) is

module _ (vs : List Vertex) (f : ℕ) (s : Stretch) (of : IsStretchOf vs f s) (test : VertexKind → Bool) where
  outside : (v : ℕ) (x : Vertex) → (IsWithin s v → ⊥) → slice_get vs v ≡ Some x → passes test f x ≡ false
  outside v x out at = other_fails (test x.kind) x.function f (λ e. out ((of.all v).0 (record { vertex = x; at = at; in_function = e })))

  -- none of the function's vertices was looked at
  pub numbers_begin : numbers_from (passes test f) s.first (drop s.first vs) ≡ numbers test f vs
  numbers_begin =
      let room = of.inside in
      let same : 0 + s.first ≡ s.first = omega arith in
      sym (none_before (passes test f) 0 s.first vs (omega (arith, room)) (λ v x lt at. outside v x (λ w. let low = w.0 in omega (arith, low, lt)) at) ∙ ap (λ n. numbers_from (passes test f) n (drop s.first vs)) same)

  -- all were
  pub numbers_end : (found : List ℕ) (n : ℕ) → s.first + s.size ≤ n → found ++ numbers_from (passes test f) n (drop n vs) ≡ numbers test f vs → found ≡ numbers test f vs
  numbers_end found n past all =
      let nothing = none_behind (passes test f) n n vs (λ v x le at. outside v x (λ w. let high = w.1 in omega (arith, high, le, past)) at) in
      sym (append-nil found) ∙ ap (λ ns. found ++ ns) (sym nothing) ∙ all

  -- one more was
  pub numbers_more : (n : ℕ) (found new : List ℕ) → IsWithin s n → found ++ numbers_from (passes test f) n (drop n vs) ≡ numbers test f vs → new ≡ found ++ if_is test n (get_or vs n some_vertex).kind → new ++ numbers_from (passes test f) (n + 1) (drop (n + 1) vs) ≡ numbers test f vs
  numbers_more n found new within all is =
      let v = get_or vs n some_vertex in
      let room = of.inside in
      let high = within.1 in
      let low : n < length vs = omega (arith, room, high) in
      let own = (of.all n).1 within in
      let at : v ≡ own.vertex = get_or_from_slice_get vs n own.vertex some_vertex own.at in
      let same : passes test f v ≡ test v.kind = own_test (test v.kind) v.function f (ap (λ (y : Vertex). y.function) at ∙ own.in_function) in
      numbers_turn (passes test f) vs n v n found new (numbers test f vs) low (get_or_default vs n v some_vertex low) all (is ∙ ap (λ b. found ++ (if b then n ∷ [] else [])) (sym same))

-- ---- the least statement of vertices

module _ (vs : List Vertex) (first : ℕ) (test : ℕ → VertexKind → Bool) where
  -- no statement of the vertices before the n-th is below this one
  abbrev pub IsLeast : ℕ → ℕ → Type 0
  IsLeast n least = (v : ℕ) (x : Vertex) (i : ℕ) → first ≤ v → v < n → slice_get vs v ≡ Some x → test i x.kind ≡ true → least ≤ i

  pub least_more : (n old new : ℕ) → IsLeast n old → new ≤ old → ((i : ℕ) → test i (get_or vs n some_vertex).kind ≡ true → new ≤ i) → IsLeast (n + 1) new
  least_more n old new so_far low own v x i from to at is = elim (cases_eq v n) [
    | inl e ↦
        let here : get_or vs n some_vertex ≡ x = ap (λ k. get_or vs k some_vertex) (sym e) ∙ get_or_from_slice_get vs v x some_vertex at in
        own i (ap (λ (y : Vertex). test i y.kind) here ∙ is)
    | inr e ↦ let below = so_far v x i from (omega (arith, to, e)) at is in omega (arith, below, low)
  ]
