-- The rows of a function's formal-outs, and the words that they take.
use Rattle.std.proofs.Common.{◌≡◌, ◌≢◌, ◌↔◌, ltb, ℕ, zero, suc, ◌+◌, ◌-◌, ◌<◌, ◌≤◌, ◌⊎◌, ◌++◌, inl, inr, Bool, true, false, List, [], ◌∷◌, length, get_or, Some, None, slice_get, Contains, refl, sym, ap, ◌∙◌, subst, arith}
use Rattle.std.specs.Prelude.{if◌then◌else◌}
use Rattle.std.specs.Option.{is_some, option_map_or}
use Rattle.std.specs.List.Sorted.{IsNonDecreasingBy, IsPartitionPoint}
use Rattle.std.proofs.lemmas.Bool.{cases_eq, cases_lt, false≢true, ltb-true, ltb-false}
use Rattle.std.proofs.lemmas.List.{get_or_append_left, get_or_past, get_or_push, length-append}
use Rattle.std.proofs.lemmas.Option.{same_Some, slice_get_within, slice_get-get_or, get_or_from_slice_get, slice_get_past}
use Rattle.dep_model.specs.declared.graph.Graph.{Graph}
use Rattle.dep_model.specs.declared.graph.OutRow.{OutRow}
use Rattle.dep_model.specs.declared.vertex.Vertex.{Vertex}
use Rattle.dep_model.specs.declared.vertex.VertexKind.TheVariants.{Entry}
use Rattle.dep_model.specs.Facts.{IsIn}
use Rattle.dep_model.specs.FunctionVertices.{is_formal_out}
use Rattle.dep_model.specs.Graphs.{row_width, out_rows_from, out_rows, words_in, HasRows}
use Rattle.matched_paths.specs.VertexRanges.{IsInRange}
use Rattle.matched_paths.proofs.RowLaws.{rows_apart, rows_inside}
use Rattle.matched_paths.proofs.RowPlaces.{row_in}
use Rattle.summary_edges.specs.declared.function_parts.FunctionPart.{FunctionPart}
use Rattle.summary_edges.specs.declared.function_parts.FunctionParts.{FunctionParts}
use Rattle.summary_edges.specs.FunctionParts.{IsPart, AreFirstParts, row_start}

-- an element by its place is one of the list
pub at_contains : {X : Type 0} (xs : List X) (k : ℕ) (x : X) → slice_get xs k ≡ Some x → Contains xs x
at_contains xs k x at = (k, slice_get_within xs k x at, get_or_from_slice_get xs k x x at)

pub contains_at : {X : Type 0} (xs : List X) (x : X) → Contains xs x → (k : ℕ) × (slice_get xs k ≡ Some x)
contains_at xs x c = (c.0, slice_get-get_or xs c.0 x c.1 ∙ ap Some c.2)

-- the place up to which rows are of vertices before one
pub rows_before_are : (outs : List OutRow) (v n : ℕ) → n ≤ length outs → IsPartitionPoint (λ (r : OutRow). ltb r.vertex v ≡ true) (λ (r : OutRow). ltb r.vertex v ≡ false) outs n → (k : ℕ) (r : OutRow) → slice_get outs k ≡ Some r → (k < n) ↔ (r.vertex < v)
rows_before_are outs v n inside h k r at =
    let low = slice_get_within outs k r at in
    let read : get_or outs k r ≡ r = get_or_from_slice_get outs k r r at in
    let same : (get_or outs k r).vertex ≡ r.vertex = ap (λ (q : OutRow). q.vertex) read in (
      λ lt. (let below = ltb-true (get_or outs k r).vertex v (h.0 k r (omega arith) lt) in omega (arith, below, same)),
      λ lt. elim (cases_lt k n) [
        | inl yes_ ↦ yes_
        | inr ge ↦ absurd (let above = ltb-false (get_or outs k r).vertex v (h.1 k r ge low) in omega (arith, above, same, lt))
      ],
    )

-- ---- rows one after another
module _ (vs : List Vertex) where
  abbrev width_of : Vertex → ℕ
  width_of x = row_width vs x.function

  -- there are no more rows than vertices
  few_from : (xs : List Vertex) (v w : ℕ) → length (out_rows_from vs v w xs) ≤ length xs
  few_from [] v w = omega arith
  few_from (x ∷ xs) v w = by_test (is_formal_out x.kind) (few_from xs (suc v) (w + width_of x)) (few_from xs (suc v) w)
    where
      by_test : (b : Bool) → length (out_rows_from vs (suc v) (w + width_of x) xs) ≤ length xs → length (out_rows_from vs (suc v) w xs) ≤ length xs
          → length (if b then record { vertex = v; word = w } ∷ out_rows_from vs (suc v) (w + width_of x) xs else out_rows_from vs (suc v) w xs) ≤ suc (length xs)
      by_test true more less = omega (arith, more)
      by_test false more less = omega (arith, less)

  -- the first word of row k of some rows, or the count of all words
  abbrev start_in : ℕ → List OutRow → ℕ → ℕ
  start_in total rows k = option_map_or (λ (r : OutRow). r.word) (slice_get rows k) total

  first_start : (xs : List Vertex) (v w total : ℕ) → total ≡ w + words_in vs xs → start_in total (out_rows_from vs v w xs) 0 ≡ w
  first_start [] v w total e = omega (arith, e)
  first_start (x ∷ xs) v w total e = by_test (is_formal_out x.kind) refl (first_start xs (suc v) w total)
    where
      by_test : (b : Bool) → is_formal_out x.kind ≡ b → (total ≡ w + words_in vs xs → start_in total (out_rows_from vs (suc v) w xs) 0 ≡ w)
          → start_in total (if b then record { vertex = v; word = w } ∷ out_rows_from vs (suc v) (w + width_of x) xs else out_rows_from vs (suc v) w xs) 0 ≡ w
      by_test true t less = refl
      by_test false t less =
          let whole : words_in vs (x ∷ xs) ≡ words_in vs xs = ap (λ b. if b then width_of x + words_in vs xs else words_in vs xs) t in
          less (omega (arith, e, whole))

  abbrev Goes : List Vertex → ℕ → ℕ → ℕ → Type 0
  Goes xs v w total = (k j : ℕ) (r : OutRow) (x : Vertex) → total ≡ w + words_in vs xs → slice_get (out_rows_from vs v w xs) k ≡ Some r → slice_get xs j ≡ Some x → r.vertex ≡ v + j
      → start_in total (out_rows_from vs v w xs) (suc k) ≡ r.word + width_of x

  -- behind a row begins the next one
  next_start : (xs : List Vertex) (v w total : ℕ) → Goes xs v w total
  next_start [] v w total k j r x e at has is = absurd (let low = slice_get_within {A = OutRow} [] k r at in omega (arith, low))
  next_start (y ∷ ys) v w total k j r x e at has is =
      by_test (is_formal_out y.kind) refl at (next_start ys (suc v) (w + width_of y) total) (next_start ys (suc v) w total)
    where
      -- the vertex of a row behind the first vertex isn't the first
      behind : (w : ℕ) (k j : ℕ) → slice_get (out_rows_from vs (suc v) w ys) k ≡ Some r → slice_get (y ∷ ys) j ≡ Some x → r.vertex ≡ v + j → (i : ℕ) × (slice_get ys i ≡ Some x) × (r.vertex ≡ suc v + i)
      behind w k zero at has is = let h = (row_in vs ys (suc v) w r (at_contains (out_rows_from vs (suc v) w ys) k r at)).vertex_is in absurd (omega (arith, h, is))
      behind w k (suc i) at has is = (i, has, omega (arith, is))

      first_is : (j : ℕ) → slice_get (y ∷ ys) j ≡ Some x → r.vertex ≡ v + j → r.vertex ≡ v → y ≡ x
      first_is zero has is at = same_Some _ _ has
      first_is (suc i) has is at = absurd (omega (arith, is, at))

      rest : OutRow
      rest = record { vertex = v; word = w }

      by_place : (k : ℕ) → words_in vs (y ∷ ys) ≡ width_of y + words_in vs ys → slice_get (rest ∷ out_rows_from vs (suc v) (w + width_of y) ys) k ≡ Some r → Goes ys (suc v) (w + width_of y) total
          → start_in total (rest ∷ out_rows_from vs (suc v) (w + width_of y) ys) (suc k) ≡ r.word + width_of x
      by_place zero whole at more =
          let here : rest ≡ r = same_Some _ _ at in
          let same : y ≡ x = first_is j has is (sym (ap (λ (q : OutRow). q.vertex) here)) in
          first_start ys (suc v) (w + width_of y) total (omega (arith, e, whole)) ∙ ap (λ z. w + width_of z) same ∙ ap (λ (q : OutRow). q.word + width_of x) here
      by_place (suc k) whole at more =
          let b = behind (w + width_of y) k j at has is in
          more k b.0 r x (omega (arith, e, whole)) at b.1 b.2

      by_test : (b : Bool) → is_formal_out y.kind ≡ b → slice_get (if b then rest ∷ out_rows_from vs (suc v) (w + width_of y) ys else out_rows_from vs (suc v) w ys) k ≡ Some r
          → Goes ys (suc v) (w + width_of y) total → Goes ys (suc v) w total
          → start_in total (if b then rest ∷ out_rows_from vs (suc v) (w + width_of y) ys else out_rows_from vs (suc v) w ys) (suc k) ≡ r.word + width_of x
      by_test true t at more less = by_place k (ap (λ b. if b then width_of y + words_in vs ys else words_in vs ys) t) at more
      by_test false t at more less =
          let whole : words_in vs (y ∷ ys) ≡ words_in vs ys = ap (λ b. if b then width_of y + words_in vs ys else words_in vs ys) t in
          let b = behind w k j at has is in
          less k b.0 r x (omega (arith, e, whole)) at b.1 b.2

  abbrev AreFormalRows : List Vertex → ℕ → ℕ → Type 0
  AreFormalRows xs v w = (k j : ℕ) (r : OutRow) (x : Vertex) → slice_get (out_rows_from vs v w xs) k ≡ Some r → slice_get xs j ≡ Some x → r.vertex ≡ v + j → is_formal_out x.kind ≡ true

  -- the vertex of a row is a formal-out
  formal_rows : (xs : List Vertex) (v w : ℕ) → AreFormalRows xs v w
  formal_rows [] v w k j r x at has is = absurd (let low = slice_get_within {A = OutRow} [] k r at in omega (arith, low))
  formal_rows (y ∷ ys) v w k j r x at has is =
      by_test (is_formal_out y.kind) refl at (formal_rows ys (suc v) (w + width_of y)) (formal_rows ys (suc v) w)
    where
      behind : (w : ℕ) (k j : ℕ) → slice_get (out_rows_from vs (suc v) w ys) k ≡ Some r → slice_get (y ∷ ys) j ≡ Some x → r.vertex ≡ v + j → AreFormalRows ys (suc v) w → is_formal_out x.kind ≡ true
      behind w k zero at has is goes = let h = (row_in vs ys (suc v) w r (at_contains (out_rows_from vs (suc v) w ys) k r at)).vertex_is in absurd (omega (arith, h, is))
      behind w k (suc i) at has is goes = goes k i r x at has (omega (arith, is))

      by_first : (j : ℕ) → is_formal_out y.kind ≡ true → slice_get (y ∷ ys) j ≡ Some x → r.vertex ≡ v + j → v ≡ r.vertex → is_formal_out x.kind ≡ true
      by_first zero t has is here = ap (λ (z : Vertex). is_formal_out z.kind) (sym (same_Some _ _ has)) ∙ t
      by_first (suc i) t has is here = absurd (omega (arith, is, here))

      by_place : (k : ℕ) → is_formal_out y.kind ≡ true → slice_get (record { vertex = v; word = w } ∷ out_rows_from vs (suc v) (w + width_of y) ys) k ≡ Some r → AreFormalRows ys (suc v) (w + width_of y) → is_formal_out x.kind ≡ true
      by_place zero t at more = by_first j t has is (ap (λ (q : OutRow). q.vertex) (same_Some _ _ at))
      by_place (suc k) t at more = behind (w + width_of y) k j at has is more

      by_test : (b : Bool) → is_formal_out y.kind ≡ b → slice_get (if b then record { vertex = v; word = w } ∷ out_rows_from vs (suc v) (w + width_of y) ys else out_rows_from vs (suc v) w ys) k ≡ Some r
          → AreFormalRows ys (suc v) (w + width_of y) → AreFormalRows ys (suc v) w → is_formal_out x.kind ≡ true
      by_test true t at more less = by_place k t at more
      by_test false t at more less = behind w k j at has is less

-- a function's rows end behind their first one
pub rows_order : (g : Graph) (p : FunctionPart) → IsPart g p → p.first_row ≤ p.last_row
rows_order g p is = elim (cases_lt p.last_row p.first_row) [
  | inr le ↦ omega (arith, le)
  | inl lt ↦
      let d : OutRow = record { vertex = 0; word = 0 } in
      let few = is.rows_first in
      let at = slice_get-get_or g.outs p.last_row d (omega (arith, lt, few)) in
      let before = (is.rows_from p.last_row (get_or g.outs p.last_row d) at).0 lt in
      let order = is.order in
      let again = (is.rows_to p.last_row (get_or g.outs p.last_row d) at).1 (omega (arith, before, order)) in
      absurd (omega (arith, again))
]

module _ (g : Graph) (rows : HasRows g) where
  pub few_rows : length g.outs ≤ length g.vertices
  few_rows = subst (λ os. length os ≤ length g.vertices) (sym rows.outs_are) (few_from g.vertices g.vertices 0 0)

  pub row_formal : (k : ℕ) (r : OutRow) (x : Vertex) → slice_get g.outs k ≡ Some r → slice_get g.vertices r.vertex ≡ Some x → is_formal_out x.kind ≡ true
  row_formal k r x at has = formal_rows g.vertices g.vertices 0 0 k r.vertex r x (subst (λ os. slice_get os k ≡ Some r) rows.outs_are at) has (omega arith)

  -- the rows stand in the order of their vertices
  pub ascending_rows : IsNonDecreasingBy (λ (r : OutRow). r.vertex) g.outs
  ascending_rows i j d le low = elim (cases_eq i j) [
    | inl same ↦ let e = ap (λ k. (get_or g.outs k d).vertex) same in omega (arith, e)
    | inr other ↦
        let a : (get_or (out_rows g.vertices) i d).vertex < (get_or (out_rows g.vertices) j d).vertex =
        rows_apart g.vertices i j d (omega (arith, le, other)) (subst (λ os. j < length os) rows.outs_are low) in
        let b : (get_or g.outs i d).vertex < (get_or g.outs j d).vertex = subst (λ os. (get_or os i d).vertex < (get_or os j d).vertex) (sym rows.outs_are) a in
        omega (arith, b)
  ]

  -- behind a row begins the next one
  pub row_next : (k : ℕ) (r : OutRow) (x : Vertex) → slice_get g.outs k ≡ Some r → slice_get g.vertices r.vertex ≡ Some x → row_start g (suc k) ≡ r.word + row_width g.vertices x.function
  row_next k r x at has =
      let total : g.fact_words ≡ 0 + words_in g.vertices g.vertices = (let e = rows.words_are in omega (arith, e)) in
      ap (λ os. option_map_or (λ (q : OutRow). q.word) (slice_get os (suc k)) g.fact_words) rows.outs_are
      ∙ next_start g.vertices g.vertices 0 0 g.fact_words k r.vertex r x total (subst (λ os. slice_get os k ≡ Some r) rows.outs_are at) has (omega arith)

  pub row_at : (k : ℕ) (r : OutRow) → slice_get g.outs k ≡ Some r → row_start g k ≡ r.word
  row_at k r at = ap (λ o. option_map_or (λ (q : OutRow). q.word) o g.fact_words) at

  pub row_past : (k : ℕ) → length g.outs ≤ k → row_start g k ≡ g.fact_words
  row_past k past = ap (λ o. option_map_or (λ (q : OutRow). q.word) o g.fact_words) (slice_get_past g.outs k past)

  -- a row that is there, and its vertex
  pub record IsRowAt (k : ℕ) : Type 0 where
    pub row : OutRow
    pub vertex : Vertex
    pub at : slice_get g.outs k ≡ Some row
    pub has : slice_get g.vertices row.vertex ≡ Some vertex

  pub row_there : (k : ℕ) → k < length g.outs → IsRowAt k
  row_there k low =
      let d : OutRow = record { vertex = 0; word = 0 } in
      let r = get_or g.outs k d in
      let inside : r.vertex < length g.vertices = subst (λ os. (get_or os k d).vertex < length g.vertices) (sym rows.outs_are) (rows_inside g.vertices k d (subst (λ os. k < length os) rows.outs_are low)) in
      let x : Vertex = record { function = 0; kind = Entry } in
      record { row = r; vertex = get_or g.vertices r.vertex x; at = slice_get-get_or g.outs k d low; has = slice_get-get_or g.vertices r.vertex x inside }

  row_step : (k : ℕ) → row_start g k ≤ row_start g (suc k)
  row_step k = elim (cases_lt k (length g.outs)) [
    | inl low ↦
        let t = row_there k low in
        let a = row_at k t.row t.at in
        let b = row_next k t.row t.vertex t.at t.has in
        omega (arith, a, b)
    | inr past ↦
        let a = row_past k (omega (arith, past)) in
        let b = row_past (suc k) (omega (arith, past)) in
        omega (arith, a, b)
  ]

  -- rows begin one behind the other
  pub row_starts : (k n : ℕ) → row_start g k ≤ row_start g (k + n)
  row_starts k zero = let e : k + 0 ≡ k = omega arith in subst (λ m. row_start g k ≤ row_start g m) (sym e) (omega arith)
  row_starts k (suc n) =
      let e : k + suc n ≡ suc (k + n) = omega arith in
      let a = row_starts k n in
      let b = row_step (k + n) in
      subst (λ m. row_start g k ≤ row_start g m) (sym e) (omega (arith, a, b))

  pub starts_in_turn : (k m : ℕ) → k ≤ m → row_start g k ≤ row_start g m
  starts_in_turn k m le = let e : k + (m - k) ≡ m = omega (arith, le) in subst (λ i. row_start g k ≤ row_start g i) e (row_starts k (m - k))

  module _ (p : FunctionPart) (is : IsPart g p) where
    pub rows_in_turn : p.first_row ≤ p.last_row
    rows_in_turn = rows_order g p is

    -- the vertex of each of a function's rows is one of the function
    pub own_row : (k : ℕ) (r : OutRow) → slice_get g.outs k ≡ Some r → p.first_row ≤ k → k < p.last_row → IsInRange p.range r.vertex
    own_row k r at from to =
        let low : p.range.first ≤ r.vertex = elim (cases_lt r.vertex p.range.first) [
          | inl lt ↦ (let h = (is.rows_from k r at).1 lt in absurd (omega (arith, h, from)))
          | inr ge ↦ omega (arith, ge)
        ] in
        (low, (is.rows_to k r at).0 to)

    pub row_own : (k : ℕ) (r : OutRow) → slice_get g.outs k ≡ Some r → IsInRange p.range r.vertex → (p.first_row ≤ k) × (k < p.last_row)
    row_own k r at inside =
        let from : p.first_row ≤ k = elim (cases_lt k p.first_row) [
          | inl lt ↦ (let h = (is.rows_from k r at).0 lt in let low = inside.0 in absurd (omega (arith, h, low)))
          | inr ge ↦ omega (arith, ge)
        ] in
        (from, (is.rows_to k r at).1 inside.1)

    pub words_in_turn : p.first_word ≤ p.last_word
    words_in_turn =
        let a = is.words_from in let b = is.words_to in
        let c = starts_in_turn p.first_row p.last_row rows_in_turn in
        omega (arith, a, b, c)

    pub words_below : p.last_word ≤ g.fact_words
    words_below =
        let b = is.words_to in
        let past = row_past (length g.outs) (omega arith) in
        let c = starts_in_turn p.last_row (length g.outs) is.rows_inside in
        omega (arith, b, c, past)

    -- the words of each of a function's rows are among those of the function
    pub words_inside : (k : ℕ) (r : OutRow) (x : Vertex) → slice_get g.outs k ≡ Some r → slice_get g.vertices r.vertex ≡ Some x → p.first_row ≤ k → k < p.last_row
        → (p.first_word ≤ r.word) × (r.word + row_width g.vertices x.function ≤ p.last_word)
    words_inside k r x at has from to =
        let a = is.words_from in let b = is.words_to in
        let here = row_at k r at in
        let next = row_next k r x at has in
        let c = starts_in_turn p.first_row k from in
        let d = starts_in_turn (suc k) p.last_row (omega (arith, to)) in
        (omega (arith, a, here, c), omega (arith, b, next, d))

    -- each word of a function is in one of its rows
    pub record IsCovered (w : ℕ) : Type 0 where
      pub place : ℕ
      pub there : IsRowAt place
      pub own : IsInRange p.range there.row.vertex
      pub from : there.row.word ≤ w
      pub to : w < there.row.word + row_width g.vertices there.vertex.function

    covered_from : (n k w : ℕ) → p.first_row ≤ k → k + n ≡ p.last_row → row_start g k ≤ w → w < p.last_word → IsCovered w
    covered_from zero k w from e low high = absurd (let b = is.words_to in let same : row_start g k ≡ row_start g p.last_row = ap (row_start g) (omega (arith, e)) in omega (arith, b, same, low, high))
    covered_from (suc n) k w from e low high =
        let within = is.rows_inside in
        let t = row_there k (omega (arith, e, within)) in
        let here = row_at k t.row t.at in
        let next = row_next k t.row t.vertex t.at t.has in
        elim (cases_lt w (row_start g (suc k))) [
          | inl lt ↦ record {
            place = k;
            there = t;
            own = own_row k t.row t.at from (omega (arith, e));
            from = omega (arith, here, low);
            to = omega (arith, next, lt);
          }
          | inr ge ↦ covered_from n (suc k) w (omega (arith, from)) (omega (arith, e)) (omega (arith, ge)) high
        ]

    pub covered : (w : ℕ) → p.first_word ≤ w → w < p.last_word → IsCovered w
    covered w low high =
        let a = is.words_from in
        let turn = rows_in_turn in
        covered_from (p.last_row - p.first_row) p.first_row w (omega arith) (omega (arith, turn)) (omega (arith, a, low)) high

-- two parts that have a vertex in common are of one function
pub one_function : (g : Graph) (p q : FunctionPart) (is : IsPart g p) (other : IsPart g q) (v : ℕ) → IsInRange p.range v → IsInRange q.range v → is.whole.function ≡ other.whole.function
one_function g p q is other v i j =
    let a = (is.whole.all v).1 i in
    let b = (other.whole.all v).1 j in
    sym a.in_function ∙ ap (λ (x : Vertex). x.function) (same_Some _ _ (sym a.at ∙ b.at)) ∙ b.in_function

pub first_inside : (g : Graph) (p : FunctionPart) → IsPart g p → IsInRange p.range p.range.first
first_inside g p is = (omega arith, is.order)

-- ---- one part after another
-- what stands behind the end, one by one
pub past_none : {X : Type 0} (xs : List X) (d : X) (k : ℕ) → get_or (xs ++ d ∷ []) k d ≡ get_or xs k d
past_none xs d k =
    let long = length-append xs (d ∷ []) in
    elim (cases_lt k (length xs)) [
      | inl lt ↦ get_or_append_left xs (d ∷ []) d k lt
      | inr ge ↦ elim (cases_eq k (length xs)) [
        | inl same ↦ get_or_push xs d d k (sym same) ∙ sym (get_or_past xs k d (omega (arith, ge)))
        | inr other ↦ get_or_past (xs ++ d ∷ []) k d (omega (arith, ge, other, long)) ∙ sym (get_or_past xs k d (omega (arith, ge)))
      ]
    ]

pub last_pushed : {X : Type 0} (xs : List X) (x : X) → slice_get (xs ++ x ∷ []) (length xs) ≡ Some x
last_pushed xs x =
    let long = length-append xs (x ∷ []) in
    slice_get-get_or (xs ++ x ∷ []) (length xs) x (omega (arith, long)) ∙ ap Some (get_or_push xs x x (length xs) refl)

pub pushed_keeps : {X : Type 0} (xs : List X) (x y : X) (k : ℕ) → slice_get xs k ≡ Some y → slice_get (xs ++ x ∷ []) k ≡ Some y
pushed_keeps xs x y k at =
    let low = slice_get_within xs k y at in
    let long = length-append xs (x ∷ []) in
    slice_get-get_or (xs ++ x ∷ []) k y (omega (arith, low, long)) ∙ ap Some (get_or_append_left xs (x ∷ []) y k low ∙ get_or_from_slice_get xs k y y at)

pub pushed_cases : {X : Type 0} (xs : List X) (x y : X) (k : ℕ) → slice_get (xs ++ x ∷ []) k ≡ Some y → (slice_get xs k ≡ Some y) ⊎ ((k ≡ length xs) × (x ≡ y))
pushed_cases xs x y k at =
    let low = slice_get_within (xs ++ x ∷ []) k y at in
    let long = length-append xs (x ∷ []) in
    elim (cases_eq k (length xs)) [
      | inl same ↦ inr (same, sym (get_or_push xs x y k (sym same)) ∙ get_or_from_slice_get (xs ++ x ∷ []) k y y at)
      | inr other ↦
          let before : k < length xs = omega (arith, low, long, other) in
          inl (slice_get-get_or xs k y before ∙ ap Some (sym (get_or_append_left xs (x ∷ []) y k before) ∙ get_or_from_slice_get (xs ++ x ∷ []) k y y at))
    ]

-- before the first function
pub no_parts : (g : Graph) (parts : FunctionParts) → parts.list.items ≡ [] → parts.of_vertex.items ≡ [] → parts.of_number.items ≡ [] → AreFirstParts g parts 0
no_parts g parts list vertices numbers = record {
  long = ap length vertices;
  few = (let none = ap length list in omega (arith, none));
  each = λ k p at. absurd (empty k p at);
  own = λ k p at. absurd (empty k p at);
  found = λ v low. absurd (omega (arith, low));
  numbered = λ f k. (
    λ is. absurd (none_some (sym (ap (λ ns. get_or ns f None) numbers ∙ get_or_past [] f None (omega arith)) ∙ is)),
    λ h. absurd (empty k h.part h.at),
  );
}
  where
    empty : (k : ℕ) (p : FunctionPart) → slice_get parts.list.items k ≡ Some p → ⊥
    empty k p at = let low = slice_get_within parts.list.items k p at in let none = ap length list in omega (arith, low, none)

    none_some : {k : ℕ} → None ≡ Some k → ⊥
    none_some h = false≢true (ap is_some h)

-- a further function is added to the first ones
pub part_added : (g : Graph) (old new : FunctionParts) (p : FunctionPart) → AreFirstParts g old p.range.first → IsPart g p
    → new.list.items ≡ old.list.items ++ p ∷ [] → length new.of_vertex.items ≡ p.range.last
    → ((v : ℕ) → v < p.range.first → get_or new.of_vertex.items v 0 ≡ get_or old.of_vertex.items v 0)
    → ((v : ℕ) → p.range.first ≤ v → v < p.range.last → get_or new.of_vertex.items v 0 ≡ length old.list.items)
    → (h : ℕ) → IsIn g.vertices h p.range.first → get_or new.of_number.items h None ≡ Some (length old.list.items)
    → ((f : ℕ) → f ≢ h → get_or new.of_number.items f None ≡ get_or old.of_number.items f None) → AreFirstParts g new p.range.last
part_added g old new p before is list long kept filled h own_number noted others = record {
  long = long;
  few = (
      let many : length new.list.items ≡ length old.list.items + 1 = ap length list ∙ length-append old.list.items (p ∷ []) in
      let few = before.few in
      let order = is.order in
      omega (arith, many, few, order)
      );
  each = λ k q at. elim (cases k q at) [
    | inl h ↦ before.each k q h
    | inr h ↦ subst (IsPart g) h.1 is
  ];
  own = λ k q at. elim (cases k q at) [
    | inl h ↦ let o = before.own k q h in let low = o.0 in ((let order = is.order in omega (arith, low, order)), kept q.range.first low ∙ o.1)
    | inr h ↦ (
      subst (λ (r : FunctionPart). r.range.first < p.range.last) h.1 is.order,
      subst (λ (r : FunctionPart). get_or new.of_vertex.items r.range.first 0 ≡ k) h.1 (filled p.range.first (omega arith) is.order ∙ sym h.0),
    )
  ];
  found = λ v low. elim (cases_lt v p.range.first) [
    | inl lt ↦ let f = before.found v lt in record {
      part = f.part;
      at = subst (λ i. slice_get new.list.items i ≡ Some f.part) (sym (kept v lt)) (there (get_or old.of_vertex.items v 0) f.part f.at);
      from = f.from;
      to = f.to;
    }
    | inr ge ↦ record {
      part = p;
      at = subst (λ i. slice_get new.list.items i ≡ Some p) (sym (filled v (omega (arith, ge)) low)) (subst (λ ps. slice_get ps (length old.list.items) ≡ Some p) (sym list) (last_pushed old.list.items p));
      from = omega (arith, ge);
      to = low;
    }
  ];
  numbered = λ f k. (
    λ at. elim (cases_eq f h) [
      | inl same ↦
          let here : length old.list.items ≡ k = same_Some _ _ (sym noted ∙ ap (λ n. get_or new.of_number.items n None) (sym same) ∙ at) in
          record {
            part = p;
            at = subst (λ n. slice_get new.list.items n ≡ Some p) here (subst (λ ps. slice_get ps (length old.list.items) ≡ Some p) (sym list) (last_pushed old.list.items p));
            first = subst (λ n. IsIn g.vertices n p.range.first) (sym same) own_number;
          }
      | inr other ↦
          let q = (before.numbered f k).0 (sym (others f other) ∙ at) in
          record { part = q.part; at = there k q.part q.at; first = q.first }
    ],
    λ q. elim (cases k q.part q.at) [
      | inl old_at ↦
          others f (λ same. apart (before.own k q.part old_at).0 (subst (λ n. IsIn g.vertices n q.part.range.first) same q.first))
          ∙ (before.numbered f k).1 (record { part = q.part; at = old_at; first = q.first })
      | inr last ↦
          let first : IsIn g.vertices f p.range.first = subst (λ (r : FunctionPart). IsIn g.vertices f r.range.first) (sym last.1) q.first in
          ap (λ n. get_or new.of_number.items n None) (one_number first own_number) ∙ noted ∙ ap Some (sym last.0)
    ],
  );
}
  where
    one_number : {a b v : ℕ} → IsIn g.vertices a v → IsIn g.vertices b v → a ≡ b
    one_number x y = sym x.in_function ∙ ap (λ (z : Vertex). z.function) (same_Some _ _ (sym x.at ∙ y.at)) ∙ y.in_function

    -- a vertex before the function's first one isn't one of the function
    apart : {v : ℕ} → v < p.range.first → IsIn g.vertices h v → ⊥
    apart {v} low inside =
        let own = one_number own_number ((is.whole.all p.range.first).1 (omega arith, is.order)) in
        let from = ((is.whole.all v).0 (subst (λ n. IsIn g.vertices n v) own inside)).0 in
        omega (arith, low, from)

    cases : (k : ℕ) (q : FunctionPart) → slice_get new.list.items k ≡ Some q → (slice_get old.list.items k ≡ Some q) ⊎ ((k ≡ length old.list.items) × (p ≡ q))
    cases k q at = pushed_cases old.list.items p q k (subst (λ ps. slice_get ps k ≡ Some q) list at)

    there : (k : ℕ) (q : FunctionPart) → slice_get old.list.items k ≡ Some q → slice_get new.list.items k ≡ Some q
    there k q at = subst (λ ps. slice_get ps k ≡ Some q) (sym list) (pushed_keeps old.list.items p q k at)
