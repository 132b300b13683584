-- The rows of formal-outs, vertex by vertex.
use Rattle.std.proofs.Common.{◌≡◌, ℕ, suc, ◌+◌, ◌<◌, ◌≤◌, ◌==◌, ◌/◌, List, [], ◌∷◌, ◌++◌, length, drop, get_or, Bool, true, false, ◌&&◌, refl, sym, ap, ◌∙◌, append_assoc, arith}
use Rattle.std.specs.Int.{div_ceil}
use Rattle.std.specs.Prelude.{if◌then◌else◌}
use Rattle.dep_model.specs.declared.graph.OutRow.{OutRow}
use Rattle.dep_model.specs.declared.vertex.Slot.{Slot}
use Rattle.dep_model.specs.declared.vertex.Vertex.{Vertex}
use Rattle.dep_model.specs.declared.vertex.VertexKind.{VertexKind}
use Rattle.dep_model.specs.declared.vertex.VertexKind.TheVariants.{Entry, FormalIn, FormalOut, Statement, Call, ActualIn, ActualOut}
use Rattle.dep_model.specs.FunctionVertices.{is_formal_in, is_formal_out, passes, numbers_from, numbers}
use Rattle.dep_model.specs.Graphs.{row_width, out_rows_from, out_rows, words_in, fact_words}
use Rattle.dep_model.specs.VertexOrder.{in_function}
use Rattle.dep_model.proofs.NumberedFrom.{drop_item}
use Rattle.sdg.specs.declared.vertex_lists.Grouping.TheVariants.{FormalIns}
use Rattle.sdg.specs.VertexLists.{has_key, list_at, AreVertexLists}

-- ---- how wide a row is

-- two tests that agree number the same vertices
numbers_agree : (one other : Vertex → Bool) → ((v : Vertex) → one v ≡ other v) → (n : ℕ) (vs : List Vertex) → numbers_from one n vs ≡ numbers_from other n vs
numbers_agree one other same n [] = refl
numbers_agree one other same n (v ∷ vs) =
    ap (λ b. if b then n ∷ numbers_from one (suc n) vs else numbers_from one (suc n) vs) (same v)
    ∙ ap (λ xs. if other v then n ∷ xs else xs) (numbers_agree one other same (suc n) vs)

and_true : (b : Bool) → b ≡ (b && true)
and_true true = refl
and_true false = refl

and_false : (b : Bool) → false ≡ (b && false)
and_false true = refl
and_false false = refl

formal_in_test : (f g : ℕ) (k : VertexKind) → has_key FormalIns f (in_function g k) ≡ passes is_formal_in f (in_function g k)
formal_in_test f g Entry = and_false (g == f)
formal_in_test f g (FormalIn s) = and_true (g == f)
formal_in_test f g (FormalOut s) = and_false (g == f)
formal_in_test f g (Statement i) = and_false (g == f)
formal_in_test f g (Call i) = and_false (g == f)
formal_in_test f g (ActualIn i s) = and_false (g == f)
formal_in_test f g (ActualOut i s) = and_false (g == f)

pub formal_in_count : (vs : List Vertex) (t : List (List ℕ)) (f : ℕ) → AreVertexLists FormalIns vs t → length (list_at t f) ≡ length (numbers is_formal_in f vs)
formal_in_count vs t f are = ap length (are f ∙ numbers_agree (has_key FormalIns f) (passes is_formal_in f) (λ v. formal_in_test f v.function v.kind) 0 vs)

-- words of 64 bits, rounded up
in_words : (n : ℕ) → div_ceil n 64 ≡ (n + 63) / 64
in_words n = omega arith

pub width_is : (vs : List Vertex) (t : List (List ℕ)) (f r : ℕ) (xs : List ℕ) → AreVertexLists FormalIns vs t → xs ≡ list_at t f → r ≡ div_ceil (length xs) 64 → r ≡ row_width vs f
width_is vs t f r xs are same told =
    told ∙ ap (λ (l : List ℕ). div_ceil (length l) 64) same ∙ ap (λ n. div_ceil n 64) (formal_in_count vs t f are) ∙ in_words (length (numbers is_formal_in f vs))

pub not_formal_out : (k : VertexKind) → ((s : Slot) → k ≡ FormalOut s → ⊥) → is_formal_out k ≡ false
not_formal_out Entry h = refl
not_formal_out (FormalIn s) h = refl
not_formal_out (FormalOut s) h = absurd (h s refl)
not_formal_out (Statement i) h = refl
not_formal_out (Call i) h = refl
not_formal_out (ActualIn i s) h = refl
not_formal_out (ActualOut i s) h = refl

-- ---- one vertex more

-- a vertex that has no row
no_row : (vs : List Vertex) (n w : ℕ) (x : Vertex) (xs : List Vertex) → is_formal_out x.kind ≡ false → out_rows_from vs n w (x ∷ xs) ≡ out_rows_from vs (suc n) w xs
no_row vs n w x xs e = ap (λ b. if b then record { vertex = n; word = w } ∷ out_rows_from vs (suc n) (w + row_width vs x.function) xs else out_rows_from vs (suc n) w xs) e

one_row : (vs : List Vertex) (n w : ℕ) (x : Vertex) (xs : List Vertex) → is_formal_out x.kind ≡ true
    → out_rows_from vs n w (x ∷ xs) ≡ record { vertex = n; word = w } ∷ out_rows_from vs (suc n) (w + row_width vs x.function) xs
one_row vs n w x xs e = ap (λ b. if b then record { vertex = n; word = w } ∷ out_rows_from vs (suc n) (w + row_width vs x.function) xs else out_rows_from vs (suc n) w xs) e

no_words : (vs : List Vertex) (x : Vertex) (xs : List Vertex) → is_formal_out x.kind ≡ false → words_in vs (x ∷ xs) ≡ words_in vs xs
no_words vs x xs e = ap (λ b. if b then row_width vs x.function + words_in vs xs else words_in vs xs) e

more_words : (vs : List Vertex) (x : Vertex) (xs : List Vertex) → is_formal_out x.kind ≡ true → words_in vs (x ∷ xs) ≡ row_width vs x.function + words_in vs xs
more_words vs x xs e = ap (λ b. if b then row_width vs x.function + words_in vs xs else words_in vs xs) e

-- what is known after the first i vertices: the rows and the words so far
pub record AreRowsSoFar (vs : List Vertex) (i : ℕ) (rows : List OutRow) (w : ℕ) : Type 0 where
  pub rows_are : rows ++ out_rows_from vs i w (drop i vs) ≡ out_rows vs
  pub words_are : w + words_in vs (drop i vs) ≡ fact_words vs

module _ (vs : List Vertex) (i : ℕ) (x : Vertex) (low : i < length vs) (at : get_or vs i x ≡ x) where
  next : drop i vs ≡ x ∷ drop (i + 1) vs
  next = drop_item vs i x low at

  one_on : suc i ≡ i + 1
  one_on = omega arith

  pub row_skipped : (rows : List OutRow) (w : ℕ) → is_formal_out x.kind ≡ false → AreRowsSoFar vs i rows w → AreRowsSoFar vs (i + 1) rows w
  row_skipped rows w e h = record {
    rows_are = ap (λ n. rows ++ out_rows_from vs n w (drop (i + 1) vs)) (sym one_on)
        ∙ ap (λ xs. rows ++ xs) (sym (no_row vs i w x (drop (i + 1) vs) e)) ∙ ap (λ xs. rows ++ out_rows_from vs i w xs) (sym next) ∙ h.rows_are;
    words_are = ap (λ n. w + n) (sym (no_words vs x (drop (i + 1) vs) e)) ∙ ap (λ xs. w + words_in vs xs) (sym next) ∙ h.words_are;
  }

  -- the words of all rows reach past a row
  pub row_fits : (rows : List OutRow) (w : ℕ) → is_formal_out x.kind ≡ true → AreRowsSoFar vs i rows w → w + row_width vs x.function ≤ fact_words vs
  row_fits rows w e h =
      let all : w + words_in vs (drop i vs) ≡ fact_words vs = h.words_are in
      let here : words_in vs (drop i vs) ≡ row_width vs x.function + words_in vs (drop (i + 1) vs) = ap (words_in vs) next ∙ more_words vs x (drop (i + 1) vs) e in
      omega (arith, all, here)

  pub row_added : (rows new : List OutRow) (w v : ℕ) → is_formal_out x.kind ≡ true → v ≡ w + row_width vs x.function → new ≡ rows ++ record { vertex = i; word = w } ∷ []
      → AreRowsSoFar vs i rows w → AreRowsSoFar vs (i + 1) new v
  row_added rows new w v e wide pushed h =
      let more = out_rows_from vs (i + 1) v (drop (i + 1) vs) in
      let here : OutRow = record { vertex = i; word = w } in
      let all : w + words_in vs (drop i vs) ≡ fact_words vs = h.words_are in
      let words : words_in vs (drop i vs) ≡ row_width vs x.function + words_in vs (drop (i + 1) vs) = ap (words_in vs) next ∙ more_words vs x (drop (i + 1) vs) e in
      let same : here ∷ more ≡ out_rows_from vs i w (drop i vs) =
      ap (λ n. here ∷ out_rows_from vs n v (drop (i + 1) vs)) (sym one_on) ∙ ap (λ n. here ∷ out_rows_from vs (suc i) n (drop (i + 1) vs)) wide
      ∙ sym (one_row vs i w x (drop (i + 1) vs) e) ∙ ap (out_rows_from vs i w) (sym next) in
      record {
        rows_are = ap (λ xs. xs ++ more) pushed ∙ append_assoc rows (here ∷ []) more ∙ ap (λ xs. rows ++ xs) same ∙ h.rows_are;
        words_are = omega (arith, all, words, wide);
      }
