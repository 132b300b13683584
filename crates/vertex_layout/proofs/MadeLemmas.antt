-- Rows of vertices are made one after another.
use Rattle.std.proofs.Common.{◌≡◌, ◌≢◌, ◌≤◌, ◌<◌, ℕ, ◌+◌, List, [], length, replicate, get_or, slice_get, ◌||◌, false, Some, inl, inr, sym, ap, ap₂, ◌∙◌, subst, arith}
use Rattle.std.proofs.lemmas.Bool.{cases_eq}
use Rattle.std.proofs.lemmas.List.{get_or-replicate}
use Rattle.std.proofs.lemmas.Option.{slice_get_within, slice_get-get_or}
use Rattle.c_language.proofs.Options.{some_same}
use Rattle.bit_rows.specs.Sets.{has}
use Rattle.bit_rows.specs.Tables.{Table, the_set, empty_table, IsSized}
use Rattle.bit_rows.proofs.SetLemmas.{has-empty}
use Rattle.bit_rows.proofs.TableLemmas.{sized_empty}
use Rattle.c_tree.specs.declared.program.Program.{Program}
use Rattle.dep_model.specs.declared.points_to.PointsTo.{PointsTo}
use Rattle.dep_model.specs.declared.vertex.Vertex.{Vertex}
use Rattle.dep_model.specs.Denoted.{Places, TargetsOf}
use Rattle.dep_model.specs.Doings.{program_doings}
use Rattle.dep_model.specs.LocationRows.{points_of, AreRows}
use Rattle.dep_model.specs.Locations.{locations}
use Rattle.dep_model.specs.VertexOrder.{vertex_effects}
use Rattle.effect_rows.specs.Gains.{with_places, HasLocationRow}
use Rattle.effect_rows.proofs.GainLaws.{gains_by_place}
use Rattle.effect_rows.proofs.GainLemmas.{sized_gained}
use Rattle.vertex_layout.specs.declared.rows.VertexRows.{VertexRows}
use Rattle.vertex_layout.specs.MadeRows.{HasVertexRows, HasGained, AreMade, AreVertexRows}
use Rattle.vertex_layout.specs.OwnStatements.{done}
use Rattle.vertex_layout.specs.RowWork.{RowWork, work_on, points_for, IsFound, AreFound}

module _ (p : Program) (vs : List Vertex) (places : Vertex → Places) where
  pub made_begins : (count wide : ℕ) (t : Table) → count ≡ length vs → wide ≡ length (locations p) → t ≡ empty_table count wide → AreMade p vs places 0 t
  made_begins count wide t many long is = subst (λ u. AreMade p vs places 0 u) (sym (is ∙ ap₂ empty_table many long)) (record {
    sized = sized_empty (length vs) (length (locations p));
    exact = λ v k x o low. absurd (omega (arith, low));
    empty = λ v k low high. ap (λ s. has s k) (get_or-replicate (length vs) v (replicate (length (locations p)) false) [] high) ∙ has-empty (length (locations p)) k;
  })

  has_row : (n : ℕ) (t : Table) → n < length vs → AreMade p vs places n t → HasLocationRow p n t
  has_row n t low made =
      let many = made.sized.rows_are in
      record { sized = subst (λ c. IsSized c (length (locations p)) t) (sym many) made.sized; row_in = omega (arith, low, many) }

  pub made_turn : (n : ℕ) (x : Vertex) (t u : Table) → n < length vs → slice_get vs n ≡ Some x → u ≡ with_places p n (places x) t → AreMade p vs places n t → AreMade p vs places (n + 1) u
  made_turn n x t u low here is made =
      let row = has_row n t low made in
      let gains = gains_by_place p n (places x) t row in
      let others : (v : ℕ) → v ≢ n → the_set u v ≡ the_set t v = λ v apart. ap (λ w. the_set w v) is ∙ gains.others v apart in
      record {
        sized = subst (IsSized (length vs) (length (locations p))) (sym is) (subst (λ c. IsSized c (length (locations p)) (with_places p n (places x) t)) made.sized.rows_are (sized_gained p n (places x) t row));
        exact = λ v k y o below at located. elim (cases_eq v n) [
          | inl same ↦
              let one : x ≡ y = some_same (sym here ∙ ap (slice_get vs) (sym same) ∙ at) in
              ap (λ j. has (the_set u j) k) same
              ∙ ap (λ w. has (the_set w n) k) is
              ∙ gains.gained k o located
              ∙ ap (λ b. b || places x o.location) (made.empty n k (omega arith) low)
              ∙ ap (λ z. places z o.location) one
          | inr apart ↦ ap (λ s. has s k) (others v apart) ∙ made.exact v k y o (omega (arith, below, apart)) at located
        ];
        empty = λ v k above high. ap (λ s. has s k) (others v (λ same. omega (arith, same, above))) ∙ made.empty v k (omega (arith, above)) high;
      }

  pub made_ends : (n : ℕ) (t : Table) → length vs ≤ n → AreMade p vs places n t → AreRows p vs places t
  made_ends n t all made = record { sized = made.sized; exact = λ v k x o at located. let within = slice_get_within vs v x at in made.exact v k x o (omega (arith, within, all)) at located }

-- ---- all three rows

module _ (p : Program) (points : TargetsOf) (vs : List Vertex) where
  pub rows_begin : (count wide : ℕ) (r : VertexRows) → count ≡ length vs → wide ≡ length (locations p)
      → r.defined ≡ empty_table count wide → r.used ≡ empty_table count wide → r.killed ≡ empty_table count wide → AreVertexRows p points vs 0 r
  rows_begin count wide r many long defined used killed = record {
    defined_made = made_begins p vs (vertex_effects p points).defines count wide r.defined many long defined;
    used_made = made_begins p vs (vertex_effects p points).uses count wide r.used many long used;
    killed_made = made_begins p vs (vertex_effects p points).kills count wide r.killed many long killed;
  }

  pub rows_turn : (n : ℕ) (x : Vertex) (old new : VertexRows) → n < length vs → slice_get vs n ≡ Some x → HasGained p points x n old new → AreVertexRows p points vs n old → AreVertexRows p points vs (n + 1) new
  rows_turn n x old new low here gained made = record {
    defined_made = made_turn p vs (vertex_effects p points).defines n x old.defined new.defined low here gained.defined_gained made.defined_made;
    used_made = made_turn p vs (vertex_effects p points).uses n x old.used new.used low here gained.used_gained made.used_made;
    killed_made = made_turn p vs (vertex_effects p points).kills n x old.killed new.killed low here gained.killed_gained made.killed_made;
  }

  -- they have as many rows as there are vertices
  pub rows_sized : (n : ℕ) (r : VertexRows) → AreVertexRows p points vs n r → HasVertexRows p (length r.defined.sets) r
  rows_sized n r made = subst (λ c. HasVertexRows p c r) (sym made.defined_made.sized.rows_are) (record {
    defined_sized = made.defined_made.sized;
    used_sized = made.used_made.sized;
    killed_sized = made.killed_made.sized;
  })

  pub row_within : (n : ℕ) (r : VertexRows) → n < length vs → AreVertexRows p points vs n r → n < length r.defined.sets
  row_within n r low made = let many = made.defined_made.sized.rows_are in omega (arith, low, many)

-- ---- the rows of the first vertices, as the work goes on

pub sized_next : (w : RowWork) (p : Program) (t : PointsTo) (vs : List Vertex) (v : ℕ) (r : VertexRows) → w ≡ work_on p t → AreVertexRows p (points_of p t) vs v r → HasVertexRows w.program (length r.defined.sets) r
sized_next w p t vs v r is made = subst (λ (u : RowWork). HasVertexRows u.program (length r.defined.sets) r) (sym is) (rows_sized p (points_of p t) vs v r made)

module _ (w : RowWork) (p : Program) (t : PointsTo) (vs : List Vertex) (v : ℕ) (d : Vertex) (low : v < length vs) (is : w ≡ work_on p t) where
  pub found_next : AreFound p (done (program_doings p)) vs → IsFound w.program w.doings (get_or vs v d).function (get_or vs v d).kind
  found_next found = subst (λ (u : RowWork). IsFound u.program u.doings (get_or vs v d).function (get_or vs v d).kind) (sym is) (found v (get_or vs v d) (slice_get-get_or vs v d low))

  pub made_next : (old new : VertexRows) → HasGained w.program (points_for w) (get_or vs v d) v old new → AreVertexRows p (points_of p t) vs v old → AreVertexRows p (points_of p t) vs (v + 1) new
  made_next old new gained made =
      rows_turn p (points_of p t) vs v (get_or vs v d) old new low (slice_get-get_or vs v d low) (subst (λ (u : RowWork). HasGained u.program (points_for u) (get_or vs v d) v old new) is gained) made
