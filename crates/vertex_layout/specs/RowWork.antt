-- What the rows of vertices are made from, and what they are to have.
use Rattle.std.specs.Prelude.{◌≡◌, ℕ, List, length, Bool, true, false, Option, Some, None, slice_get, slice_index_or}
use Rattle.c_tree.specs.declared.program.Program.{Program}
use Rattle.dep_model.specs.declared.points_to.PointsTo.{PointsTo}
use Rattle.dep_model.specs.declared.vertex.Slot.TheVariants.{Result}
use Rattle.dep_model.specs.declared.vertex.Vertex.{Vertex}
use Rattle.dep_model.specs.declared.vertex.VertexKind.{VertexKind}
use Rattle.dep_model.specs.declared.vertex.VertexKind.TheVariants.{Entry, FormalIn, FormalOut, Statement, Call, ActualIn, ActualOut}
use Rattle.dep_model.specs.Denoted.{Places, TargetsOf}
use Rattle.dep_model.specs.Doings.{Doing, Calls, program_doings}
use Rattle.dep_model.specs.LocationLists.{AreListedOnce}
use Rattle.dep_model.specs.LocationRows.{points_of, HasPointsRows}
use Rattle.dep_model.specs.Locations.{locations}
use Rattle.vertex_layout.specs.OwnStatements.{done}
use Rattle.dep_model.specs.VertexOrder.{doing_at, out_defines, out_kills, statement_defines, statement_kills}

-- a program, rows that say where its locations may point, and what its statements do by their numbers
pub record RowWork : Type 0 where
  pub program : Program
  pub rows : PointsTo
  pub doings : List (Option Doing)

-- the work on a program, where its locations may point so
abbrev pub work_on : Program → PointsTo → RowWork
work_on p t = record { program = p; rows = t; doings = done (program_doings p) }

abbrev pub points_for : RowWork → TargetsOf
points_for w = points_of w.program w.rows

-- what the statement with a number does itself
abbrev pub found_at : List (Option Doing) → ℕ → Option Doing
found_at doings i = slice_index_or doings i None

abbrev pub own_at : RowWork → ℕ → Option Doing
own_at w i = found_at w.doings i

abbrev pub is_call : Option Doing → Bool
is_call (Some (Calls i to g args)) = true
is_call _ = false

-- what a statement itself may define or kills, where it is a call or else where it is none
abbrev pub defines_where : RowWork → ℕ → Option Doing → Bool → Places
defines_where w f d true = out_defines w.program (points_for w) f d Result
defines_where w f d false = statement_defines w.program (points_for w) f d

abbrev pub kills_where : RowWork → ℕ → Option Doing → Bool → Places
kills_where w f d true = out_kills w.program (points_for w) f d Result
kills_where w f d false = statement_kills w.program (points_for w) f d

-- the statement to which a vertex belongs
abbrev pub statement_of : VertexKind → Option ℕ
statement_of Entry = None
statement_of (FormalIn slot) = None
statement_of (FormalOut slot) = None
statement_of (Statement i) = Some i
statement_of (Call i) = Some i
statement_of (ActualIn i slot) = Some i
statement_of (ActualOut i slot) = Some i

-- the statement of a vertex of function f is found by its number among what statements do
pub record IsFound (p : Program) (doings : List (Option Doing)) (f : ℕ) (k : VertexKind) : Type 0 where
  pub doing_is : (i : ℕ) → statement_of k ≡ Some i → found_at doings i ≡ doing_at p f i

abbrev pub AreFound : Program → List (Option Doing) → List Vertex → Type 0
AreFound p doings vs = (v : ℕ) (x : Vertex) → slice_get vs v ≡ Some x → IsFound p doings x.function x.kind

pub record IsWork (p : Program) (t : PointsTo) (count : ℕ) : Type 0 where
  pub once : AreListedOnce p
  pub points_are : HasPointsRows p t
  pub count_is : count ≡ length (locations p)
