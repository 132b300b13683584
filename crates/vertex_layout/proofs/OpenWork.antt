-- What is said of the parts of the work on rows is said of its value.
use Rattle.std.proofs.Common.{◌≡◌, ℕ, List, Option, sym, ap, ◌∙◌, subst}
use Rattle.bit_rows.specs.Tables.{Table}
use Rattle.c_tree.specs.declared.program.Program.{Program}
use Rattle.dep_model.specs.declared.points_to.PointsTo.{PointsTo}
use Rattle.dep_model.specs.Denoted.{Places, TargetsOf}
use Rattle.dep_model.specs.LocationRows.{points_of}
use Rattle.effect_rows.specs.Gains.{with_places}
use Rattle.dep_model.specs.Doings.{Doing}
use Rattle.vertex_layout.specs.RowWork.{RowWork, IsWork, points_for}

-- the work is on this program, with these rows
pub record IsOpen (w : RowWork) (q : Program) (t : PointsTo) : Type 0 where
  pub program_is : w.program ≡ q
  pub rows_are : w.rows ≡ t

module _ (w : RowWork) (q : Program) (t : PointsTo) where
  points_same : IsOpen w q t → points_for w ≡ points_of q t
  points_same o = ap (λ p. points_of p w.rows) o.program_is ∙ ap (points_of q) o.rows_are

  -- what the rows gain
  pub gained_in : IsOpen w q t → (row : ℕ) (mine : Program → TargetsOf → Places) (old new : Table) → new ≡ with_places q row (mine q (points_of q t)) old → new ≡ with_places w.program row (mine w.program (points_for w)) old
  gained_in o row mine old new gained =
      gained ∙ sym (ap (λ p. with_places p row (mine p (points_for w)) old) o.program_is ∙ ap (λ to. with_places q row (mine q to) old) (points_same o))

-- the parts of a value that is open
module _ (w : RowWork) (p : Program) (t : PointsTo) (doings : List (Option Doing)) (view : record { program = p; rows = t; doings = doings } ≡ w) where
  pub opened : (q : Program) → q ≡ p → IsOpen w q t
  opened q same = record { program_is = sym (ap (λ (v : RowWork). v.program) view) ∙ sym same; rows_are = sym (ap (λ (v : RowWork). v.rows) view) }

  pub worked : (count : ℕ) → IsWork p t count → IsWork w.program w.rows count
  worked count is = subst (λ (v : RowWork). IsWork v.program v.rows count) view is
