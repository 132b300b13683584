-- The rows of a graph's facts don't overlap, and each stands below the count of all words.
use Rattle.std.proofs.Common.{◌≡◌, ℕ, zero, suc, ◌+◌, ◌*◌, ◌<◌, ◌≤◌, inl, inr, Bool, true, false, List, [], ◌∷◌, length, get_or, Some, slice_get, Contains, refl, sym, ap, ◌∙◌, subst, arith}
use Rattle.std.proofs.lemmas.Bool.{cases_lt}
use Rattle.std.proofs.lemmas.List.{get_or_default}
use Rattle.matched_paths.proofs.RowLaws.{rows_apart}
use Rattle.std.proofs.lemmas.Option.{same_Some, slice_get_within}
use Rattle.std.specs.Prelude.{if◌then◌else◌}
use Rattle.rule_closure.proofs.ListLemmas.{contains_none, contains_cases}
use Rattle.dep_model.specs.declared.graph.Graph.{Graph}
use Rattle.dep_model.specs.declared.graph.OutRow.{OutRow}
use Rattle.dep_model.specs.declared.vertex.Vertex.{Vertex}
use Rattle.dep_model.specs.Facts.{IsFactBit}
use Rattle.dep_model.specs.FunctionVertices.{is_formal_in, is_formal_out, numbers}
use Rattle.dep_model.specs.Graphs.{row_width, out_rows_from, out_rows, words_in, fact_words, HasRows}

-- a row of a part xs of the vertices, which begins at vertex v, its first row at word w
pub record IsRowOf (vs xs : List Vertex) (v w : ℕ) (r : OutRow) : Type 0 where
  pub place : ℕ
  pub vertex : Vertex
  pub at : slice_get xs place ≡ Some vertex
  pub vertex_is : r.vertex ≡ v + place
  pub low : w ≤ r.word
  pub high : r.word + row_width vs vertex.function ≤ w + words_in vs xs

module _ (vs : List Vertex) where
  abbrev width_of : Vertex → ℕ
  width_of x = row_width vs x.function

  pub row_in : (xs : List Vertex) (v w : ℕ) (r : OutRow) → Contains (out_rows_from vs v w xs) r → IsRowOf vs xs v w r
  row_in [] v w r c = absurd (contains_none r c)
  row_in (y ∷ ys) v w r c = by_test (is_formal_out y.kind) refl c (row_in ys (suc v) (w + width_of y) r) (row_in ys (suc v) w r)
    where
      by_test : (b : Bool) → is_formal_out y.kind ≡ b → Contains (if b then record { vertex = v; word = w } ∷ out_rows_from vs (suc v) (w + width_of y) ys else out_rows_from vs (suc v) w ys) r
          → (Contains (out_rows_from vs (suc v) (w + width_of y) ys) r → IsRowOf vs ys (suc v) (w + width_of y) r) → (Contains (out_rows_from vs (suc v) w ys) r → IsRowOf vs ys (suc v) w r) → IsRowOf vs (y ∷ ys) v w r
      by_test true t c more less =
          let whole : words_in vs (y ∷ ys) ≡ width_of y + words_in vs ys = ap (λ b. if b then width_of y + words_in vs ys else words_in vs ys) t in
          elim (contains_cases (record { vertex = v; word = w }) (out_rows_from vs (suc v) (w + width_of y) ys) r c) [
            | inl e ↦
                let word : w ≡ r.word = ap (λ (q : OutRow). q.word) e in
                let vertex : v ≡ r.vertex = ap (λ (q : OutRow). q.vertex) e in
                record { place = 0; vertex = y; at = refl; vertex_is = omega (arith, vertex); low = omega (arith, word); high = omega (arith, word, whole) }
            | inr d ↦
                let h = more d in
                let is = h.vertex_is in let low = h.low in let high = h.high in
                record { place = suc h.place; vertex = h.vertex; at = h.at; vertex_is = omega (arith, is); low = omega (arith, low); high = omega (arith, high, whole) }
          ]
      by_test false t c more less =
          let whole : words_in vs (y ∷ ys) ≡ words_in vs ys = ap (λ b. if b then width_of y + words_in vs ys else words_in vs ys) t in
          let h = less c in
          let is = h.vertex_is in let low = h.low in let high = h.high in
          record { place = suc h.place; vertex = h.vertex; at = h.at; vertex_is = omega (arith, is); low = omega (arith, low); high = omega (arith, high, whole) }

  abbrev Goes : List Vertex → ℕ → OutRow → OutRow → ℕ → Type 0
  Goes ys v r s w = (k : ℕ) (x : Vertex) → Contains (out_rows_from vs v w ys) r → Contains (out_rows_from vs v w ys) s → slice_get ys k ≡ Some x → r.vertex ≡ v + k → r.vertex < s.vertex → r.word + width_of x ≤ s.word

  -- a row of an earlier vertex ends before that of a later one begins
  rows_follow : (xs : List Vertex) (v w : ℕ) (r s : OutRow) (k : ℕ) (x : Vertex) → Contains (out_rows_from vs v w xs) r → Contains (out_rows_from vs v w xs) s
      → slice_get xs k ≡ Some x → r.vertex ≡ v + k → r.vertex < s.vertex → r.word + width_of x ≤ s.word
  rows_follow [] v w r s k x c d at is lt = absurd (contains_none r c)
  rows_follow (y ∷ ys) v w r s k x c d at is lt =
      by_test (is_formal_out y.kind) c d (rows_follow ys (suc v) (w + width_of y) r s) (rows_follow ys (suc v) w r s)
    where
      later : (w : ℕ) (k : ℕ) → slice_get (y ∷ ys) k ≡ Some x → r.vertex ≡ v + k → Contains (out_rows_from vs (suc v) w ys) r → Contains (out_rows_from vs (suc v) w ys) s → Goes ys (suc v) r s w → r.word + width_of x ≤ s.word
      later w zero at is c d goes = let h = row_in ys (suc v) w r c in let other = h.vertex_is in absurd (omega (arith, is, other))
      later w (suc k) at is c d goes = goes k x c d at (omega (arith, is)) lt

      by_test : (b : Bool) → Contains (if b then record { vertex = v; word = w } ∷ out_rows_from vs (suc v) (w + width_of y) ys else out_rows_from vs (suc v) w ys) r
          → Contains (if b then record { vertex = v; word = w } ∷ out_rows_from vs (suc v) (w + width_of y) ys else out_rows_from vs (suc v) w ys) s → Goes ys (suc v) r s (w + width_of y) → Goes ys (suc v) r s w → r.word + width_of x ≤ s.word
      by_test false c d more less = later w k at is c d less
      by_test true c d more less = elim (contains_cases (record { vertex = v; word = w }) (out_rows_from vs (suc v) (w + width_of y) ys) r c) [
        | inl e ↦ elim (contains_cases (record { vertex = v; word = w }) (out_rows_from vs (suc v) (w + width_of y) ys) s d) [
          | inl f ↦
              let one : v ≡ r.vertex = ap (λ (q : OutRow). q.vertex) e in
              let two : v ≡ s.vertex = ap (λ (q : OutRow). q.vertex) f in
              absurd (omega (arith, one, two, lt))
          | inr f ↦
              let one : v ≡ r.vertex = ap (λ (q : OutRow). q.vertex) e in
              let word : w ≡ r.word = ap (λ (q : OutRow). q.word) e in
              let first : k ≡ 0 = omega (arith, one, is) in
              let same : y ≡ x = same_Some _ _ (sym (ap (slice_get (y ∷ ys)) first) ∙ at) in
              let wide : width_of y ≡ width_of x = ap width_of same in
              let low = (row_in ys (suc v) (w + width_of y) s f).low in
              omega (arith, word, wide, low)
        ]
        | inr e ↦ elim (contains_cases (record { vertex = v; word = w }) (out_rows_from vs (suc v) (w + width_of y) ys) s d) [
          | inl f ↦
              let h = (row_in ys (suc v) (w + width_of y) r e).vertex_is in
              let two : v ≡ s.vertex = ap (λ (q : OutRow). q.vertex) f in
              absurd (omega (arith, h, two, lt))
          | inr f ↦ later (w + width_of y) k at is e f more
        ]
      ]

  -- the row of a vertex, among all rows
  pub rows_apart_from : (r s : OutRow) (x : Vertex) → Contains (out_rows vs) r → Contains (out_rows vs) s → slice_get vs r.vertex ≡ Some x → r.vertex < s.vertex → r.word + width_of x ≤ s.word
  rows_apart_from r s x c d at lt = rows_follow vs 0 0 r s r.vertex x c d at (omega arith) lt

  pub row_below : (r : OutRow) (x : Vertex) → Contains (out_rows vs) r → slice_get vs r.vertex ≡ Some x → r.word + width_of x ≤ fact_words vs
  row_below r x c at =
      let h = row_in vs 0 0 r c in
      let is = h.vertex_is in
      let place : h.place ≡ r.vertex = omega (arith, is) in
      let same : h.vertex ≡ x = same_Some _ _ (sym h.at ∙ ap (slice_get vs) place ∙ at) in
      let wide : width_of h.vertex ≡ width_of x = ap width_of same in
      let high = h.high in
      omega (arith, wide, high)

-- ---- bits of facts

-- a number below the count of formal-ins is below the bits of a row
inside_row : (vs : List Vertex) (f n : ℕ) → n < length (numbers is_formal_in f vs) → n < 64 * row_width vs f
inside_row vs f n h = omega (arith, h)

module _ (g : Graph) (rows : HasRows g) where
  in_rows : (r : OutRow) → Contains g.outs r → Contains (out_rows g.vertices) r
  in_rows r c = subst (λ os. Contains os r) rows.outs_are c

  -- where the row of a fact stands, and where in it its bit
  pub record IsPlaced (a b bit : ℕ) : Type 0 where
    pub vertex : Vertex
    pub at : slice_get g.vertices b ≡ Some vertex
    pub number : ℕ
    pub word : ℕ
    pub goes_in : slice_get (numbers is_formal_in vertex.function g.vertices) number ≡ Some a
    pub row : Contains (out_rows g.vertices) (record { vertex = b; word = word })
    pub inside : number < 64 * row_width g.vertices vertex.function
    pub few : number < length (numbers is_formal_in vertex.function g.vertices)
    pub bit_is : bit ≡ 64 * word + number

  pub placed : (a b bit : ℕ) → IsFactBit g a b bit → IsPlaced a b bit
  placed a b bit h =
      let x = h.comes_out.vertex in
      let same = h.comes_out.in_function in
      let goes : slice_get (numbers is_formal_in x.function g.vertices) h.number ≡ Some a = subst (λ f. slice_get (numbers is_formal_in f g.vertices) h.number ≡ Some a) (sym same) h.goes_in in
      let few = slice_get_within (numbers is_formal_in x.function g.vertices) h.number a goes in
      record { vertex = x; at = h.comes_out.at; number = h.number; word = h.first_word; goes_in = goes; row = in_rows _ h.row; inside = inside_row g.vertices x.function h.number few; few = few; bit_is = h.bit_is }

  pub bit_below : (a b bit : ℕ) → IsFactBit g a b bit → bit < 64 * g.fact_words
  bit_below a b bit h =
      let p = placed a b bit h in
      let high = row_below g.vertices (record { vertex = b; word = p.word }) p.vertex p.row p.at in
      let inside = p.inside in let is = p.bit_is in let words = rows.words_are in
      omega (arith, high, inside, is, words)

  same_word : (b v w : ℕ) (x : Vertex) → Contains (out_rows g.vertices) (record { vertex = b; word = v }) → Contains (out_rows g.vertices) (record { vertex = b; word = w }) → v ≡ w
  same_word b v w x c d = elim (cases_lt c.0 d.0) [
    | inl lt ↦ absurd (let h = rows_apart g.vertices c.0 d.0 (record { vertex = b; word = v }) lt d.1 in let one : (get_or (out_rows g.vertices) c.0 (record { vertex = b; word = v })).vertex ≡ b = ap (λ (q : OutRow). q.vertex) c.2 in let two : (get_or (out_rows g.vertices) d.0 (record { vertex = b; word = v })).vertex ≡ b = ap (λ (q : OutRow). q.vertex) (get_or_default (out_rows g.vertices) d.0 (record { vertex = b; word = v }) (record { vertex = b; word = w }) d.1 ∙ d.2) in omega (arith, h, one, two))
    | inr ge ↦ by_place ge
  ]
    where
      by_place : d.0 ≤ c.0 → v ≡ w
      by_place ge = elim (cases_lt d.0 c.0) [
        | inl lt ↦ absurd (let h = rows_apart g.vertices d.0 c.0 (record { vertex = b; word = v }) lt c.1 in let one : (get_or (out_rows g.vertices) c.0 (record { vertex = b; word = v })).vertex ≡ b = ap (λ (q : OutRow). q.vertex) c.2 in let two : (get_or (out_rows g.vertices) d.0 (record { vertex = b; word = v })).vertex ≡ b = ap (λ (q : OutRow). q.vertex) (get_or_default (out_rows g.vertices) d.0 (record { vertex = b; word = v }) (record { vertex = b; word = w }) d.1 ∙ d.2) in omega (arith, h, one, two))
        | inr le ↦
            let same : c.0 ≡ d.0 = omega (arith, ge, le) in
            ap (λ (q : OutRow). q.word) (sym c.2 ∙ ap (λ k. get_or (out_rows g.vertices) k (record { vertex = b; word = v })) same ∙ get_or_default (out_rows g.vertices) d.0 (record { vertex = b; word = v }) (record { vertex = b; word = w }) d.1 ∙ d.2)
      ]

  -- two facts of one bit are one
  pub one_fact : (a b c d bit : ℕ) → IsFactBit g a b bit → IsFactBit g c d bit → (a ≡ c) × (b ≡ d)
  one_fact a b c d bit h k = elim (cases_lt b d) [
    | inl lt ↦ absurd (apart a b c d bit h k lt)
    | inr ge ↦ elim (cases_lt d b) [
      | inl lt ↦ absurd (apart c d a b bit k h lt)
      | inr le ↦ let same : b ≡ d = omega (arith, ge, le) in (one_row same, same)
    ]
  ]
    where
      apart : (a b c d bit : ℕ) → IsFactBit g a b bit → IsFactBit g c d bit → b < d → ⊥
      apart a b c d bit h k lt =
          let p = placed a b bit h in
          let q = placed c d bit k in
          let far = rows_apart_from g.vertices (record { vertex = b; word = p.word }) (record { vertex = d; word = q.word }) p.vertex p.row q.row p.at lt in
          let inside = p.inside in let one = p.bit_is in let two = q.bit_is in
          omega (arith, far, inside, one, two)

      one_row : b ≡ d → a ≡ c
      one_row same =
          let p = placed a b bit h in
          let q = placed c d bit k in
          let vertex : p.vertex ≡ q.vertex = same_Some _ _ (sym p.at ∙ ap (slice_get g.vertices) same ∙ q.at) in
          let row : Contains (out_rows g.vertices) (record { vertex = d; word = p.word }) = subst (λ v. Contains (out_rows g.vertices) (record { vertex = v; word = p.word })) same p.row in
          let word : p.word ≡ q.word = same_word d p.word q.word p.vertex row q.row in
          let one = p.bit_is in let two = q.bit_is in
          let number : p.number ≡ q.number = omega (arith, one, two, word) in
          same_Some _ _ (sym p.goes_in ∙ ap (λ (x : Vertex). slice_get (numbers is_formal_in x.function g.vertices) p.number) vertex ∙ ap (slice_get (numbers is_formal_in q.vertex.function g.vertices)) number ∙ q.goes_in)

  -- the bit of a fact isn't past the formal-ins in any row
  pub never_past : (a b bit : ℕ) (r : OutRow) (x : Vertex) (i : ℕ) → IsFactBit g a b bit → Contains g.outs r → slice_get g.vertices r.vertex ≡ Some x
      → length (numbers is_formal_in x.function g.vertices) ≤ i → i < 64 * row_width g.vertices x.function → 64 * r.word + i ≡ bit → ⊥
  never_past a b bit r x i h c at past inside same =
      let p = placed a b bit h in
      let own = in_rows r c in
      let is = p.bit_is in let in_ = p.inside in
      elim (cases_lt b r.vertex) [
        | inl lt ↦ let far = rows_apart_from g.vertices (record { vertex = b; word = p.word }) r p.vertex p.row own p.at lt in omega (arith, far, in_, is, same)
        | inr ge ↦ elim (cases_lt r.vertex b) [
          | inl lt ↦ let far = rows_apart_from g.vertices r (record { vertex = b; word = p.word }) x own p.row at lt in omega (arith, far, inside, is, same)
          | inr le ↦
              let one : b ≡ r.vertex = omega (arith, ge, le) in
              let vertex : p.vertex ≡ x = same_Some _ _ (sym p.at ∙ ap (slice_get g.vertices) one ∙ at) in
              let row : Contains (out_rows g.vertices) (record { vertex = r.vertex; word = p.word }) = subst (λ v. Contains (out_rows g.vertices) (record { vertex = v; word = p.word })) one p.row in
              let word : p.word ≡ r.word = same_word r.vertex p.word r.word x row own in
              let few = p.few in
              let counts : length (numbers is_formal_in p.vertex.function g.vertices) ≡ length (numbers is_formal_in x.function g.vertices) = ap (λ (y : Vertex). length (numbers is_formal_in y.function g.vertices)) vertex in
              omega (arith, word, few, counts, past, is, same)
        ]
      ]
