-- The rows of a graph's facts: one for each formal-out, in the order of the vertices.
use Rattle.std.proofs.Common.{◌≡◌, ℕ, zero, suc, ◌+◌, ◌<◌, ◌≤◌, ◌≢◌, set, inl, inr, Bool, true, false, List, [], ◌∷◌, length, get_or, Some, slice_get, Contains, refl, sym, ap, ◌∙◌, subst, arith}
use Rattle.std.proofs.lemmas.List.{get_or-set_same, get_or-set_other, get_or_default}
use Rattle.std.proofs.lemmas.Bool.{cases_eq}
use Rattle.std.specs.Prelude.{if◌then◌else◌}
use Rattle.rule_closure.proofs.ListLemmas.{contains_head, contains_cons}
use Rattle.dep_model.specs.declared.graph.OutRow.{OutRow}
use Rattle.dep_model.specs.declared.vertex.Vertex.{Vertex}
use Rattle.dep_model.specs.FunctionVertices.{is_formal_out}
use Rattle.dep_model.specs.Graphs.{row_width, out_rows_from, out_rows}

-- the rows are of vertices from v on and below n
abbrev AreBetween : ℕ → ℕ → List OutRow → Type 0
AreBetween v n rows = (k : ℕ) (d : OutRow) → k < length rows → (v ≤ (get_or rows k d).vertex) × ((get_or rows k d).vertex < n)

between_test : (b : Bool) (v n w : ℕ) (more less : List OutRow) → v < n → AreBetween (suc v) n more → AreBetween (suc v) n less → AreBetween v n (if b then record { vertex = v; word = w } ∷ more else less)
between_test true v n w more less low h i zero d k = (omega arith, low)
between_test true v n w more less low h i (suc j) d k = let r = h j d (omega (arith, k)) in (omega (arith, r.0), r.1)
between_test false v n w more less low h i j d k = let r = i j d k in (omega (arith, r.0), r.1)

rows_between : (vs xs : List Vertex) (v w n : ℕ) → v + length xs ≡ n → AreBetween v n (out_rows_from vs v w xs)
rows_between vs [] v w n e = λ k d h. absurd (omega (arith, h))
rows_between vs (x ∷ xs) v w n e =
    let next : suc v + length xs ≡ n = omega (arith, e) in
    between_test (is_formal_out x.kind) v n w (out_rows_from vs (suc v) (w + row_width vs x.function) xs) (out_rows_from vs (suc v) w xs) (omega (arith, e))
    (rows_between vs xs (suc v) (w + row_width vs x.function) n next) (rows_between vs xs (suc v) w n next)

abbrev AreApart : List OutRow → Type 0
AreApart rows = (i j : ℕ) (d : OutRow) → i < j → j < length rows → (get_or rows i d).vertex < (get_or rows j d).vertex

apart_test : (b : Bool) (v n w : ℕ) (more less : List OutRow) → AreBetween (suc v) n more → AreApart more → AreApart less → AreApart (if b then record { vertex = v; word = w } ∷ more else less)
apart_test true v n w more less h a b zero zero d i j = absurd (omega (arith, i))
apart_test true v n w more less h a b zero (suc l) d i j = let r = h l d (omega (arith, j)) in omega (arith, r.0)
apart_test true v n w more less h a b (suc k) zero d i j = absurd (omega (arith, i))
apart_test true v n w more less h a b (suc k) (suc l) d i j = a k l d (omega (arith, i)) (omega (arith, j))
apart_test false v n w more less h a b k l d i j = b k l d i j

apart_from : (vs xs : List Vertex) (v w : ℕ) → AreApart (out_rows_from vs v w xs)
apart_from vs [] v w = λ i j d h k. absurd (omega (arith, k))
apart_from vs (x ∷ xs) v w =
    apart_test (is_formal_out x.kind) v (suc v + length xs) w (out_rows_from vs (suc v) (w + row_width vs x.function) xs) (out_rows_from vs (suc v) w xs)
    (rows_between vs xs (suc v) (w + row_width vs x.function) (suc v + length xs) refl) (apart_from vs xs (suc v) (w + row_width vs x.function)) (apart_from vs xs (suc v) w)

-- a row of this vertex
abbrev HasRow : List OutRow → ℕ → Type 0
HasRow rows b = (w : ℕ) × Contains rows (record { vertex = b; word = w })

row_test : (t : Bool) (v w b : ℕ) (more less : List OutRow) → HasRow more b → HasRow less b → HasRow (if t then record { vertex = v; word = w } ∷ more else less) b
row_test true v w b more less h i = (h.0, contains_cons (record { vertex = v; word = w }) more _ h.1)
row_test false v w b more less h i = i

row_here : (t : Bool) (v w : ℕ) (more less : List OutRow) → t ≡ true → HasRow (if t then record { vertex = v; word = w } ∷ more else less) v
row_here true v w more less h = (w, contains_head (record { vertex = v; word = w }) more)
row_here false v w more less h = cc

row_from : (vs xs : List Vertex) (v w k : ℕ) (x : Vertex) → slice_get xs k ≡ Some x → is_formal_out x.kind ≡ true → HasRow (out_rows_from vs v w xs) (v + k)
row_from vs [] v w k x h o = cc
row_from vs (y ∷ ys) v w zero x h o =
    let same : y ≡ x = cc in
    let at : v ≡ v + 0 = omega arith in
    subst (HasRow (out_rows_from vs v w (y ∷ ys))) at
    (row_here (is_formal_out y.kind) v w (out_rows_from vs (suc v) (w + row_width vs y.function) ys) (out_rows_from vs (suc v) w ys) (ap (λ (z : Vertex). is_formal_out z.kind) same ∙ o))
row_from vs (y ∷ ys) v w (suc k) x h o =
    let at : suc v + k ≡ v + suc k = omega arith in
    subst (HasRow (out_rows_from vs v w (y ∷ ys))) at
    (row_test (is_formal_out y.kind) v w (suc v + k) (out_rows_from vs (suc v) (w + row_width vs y.function) ys) (out_rows_from vs (suc v) w ys)
    (row_from vs ys (suc v) (w + row_width vs y.function) k x h o) (row_from vs ys (suc v) w k x h o))

pub rows_inside : (vs : List Vertex) (k : ℕ) (d : OutRow) → k < length (out_rows vs) → (get_or (out_rows vs) k d).vertex < length vs
rows_inside vs k d h = (rows_between vs vs 0 0 (length vs) (omega arith) k d h).1

pub rows_apart : (vs : List Vertex) → AreApart (out_rows vs)
rows_apart vs = apart_from vs vs 0 0

pub row_of_formal : (vs : List Vertex) (b : ℕ) (x : Vertex) → slice_get vs b ≡ Some x → is_formal_out x.kind ≡ true → HasRow (out_rows vs) b
row_of_formal vs b x h o = let at : 0 + b ≡ b = omega arith in subst (HasRow (out_rows vs)) at (row_from vs vs 0 0 b x h o)

-- ---- the first words, stored by vertex
pub row_stored : (outs : List OutRow) (i : ℕ) (d : OutRow) (words : List ℕ) → i < length outs → AreApart outs → (get_or outs i d).vertex < length words → ((k : ℕ) (r : OutRow) → k < i → get_or outs k r ≡ r → get_or words r.vertex 0 ≡ r.word) → (k : ℕ) (r : OutRow) → k < i + 1 → get_or outs k r ≡ r → get_or (set words (get_or outs i d).vertex (get_or outs i d).word) r.vertex 0 ≡ r.word
row_stored outs i d words low apart inside known k r below at = elim (cases_eq k i) [
  | inl e ↦
      let here : get_or outs i d ≡ r = get_or_default outs i d r low ∙ ap (λ j. get_or outs j r) (sym e) ∙ at in
      let v = get_or outs i d in
      ap (λ (x : OutRow). get_or (set words v.vertex v.word) x.vertex 0) (sym here) ∙ get_or-set_same words v.vertex v.word 0 inside ∙ ap (λ (x : OutRow). x.word) here
  | inr e ↦
      let less : k < i = omega (arith, below, e) in
      let here : get_or outs k d ≡ r = get_or_default outs k d r (omega (arith, less, low)) ∙ at in
      let v = get_or outs i d in
      let before : r.vertex < v.vertex = subst (λ (x : OutRow). x.vertex < v.vertex) here (apart k i d less low) in
      let other : r.vertex ≢ v.vertex = λ q. omega (arith, before, q) in
      get_or-set_other words v.vertex r.vertex v.word 0 other ∙ known k r less at
]
