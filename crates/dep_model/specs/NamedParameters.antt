-- Which parameters the words of a vertex name.
use Rattle.std.specs.Prelude.{◌≡◌, ℕ, Bool, true, false, List, Option, Some, slice_get}
use Rattle.std.specs.Option.{option_map_or}
use Rattle.c_tree.specs.declared.expr.Expr.{Expr}
use Rattle.c_tree.specs.declared.program.Program.{Program}
use Rattle.c_language.specs.Names.{names, target_names, act_names}
use Rattle.dep_model.specs.declared.vertex.Slot.{Slot}
use Rattle.dep_model.specs.declared.vertex.Slot.TheVariants.{Argument, Result}
use Rattle.dep_model.specs.declared.vertex.Vertex.{Vertex}
use Rattle.dep_model.specs.declared.vertex.VertexKind.{VertexKind}
use Rattle.dep_model.specs.declared.vertex.VertexKind.TheVariants.{Entry, FormalIn, FormalOut, Statement, Call, ActualIn, ActualOut}
use Rattle.dep_model.specs.Doings.{Doing, Does, Calls}
use Rattle.dep_model.specs.MayPoint.{parameters}
use Rattle.dep_model.specs.SystemGraph.{IsVertex}
use Rattle.dep_model.specs.VertexOrder.{doing_at}

abbrev pub statement_names : Option Doing → ℕ → Bool
statement_names (Some (Does i a)) x = act_names a x
statement_names _ x = false

abbrev pub argument_names : Option Doing → Slot → ℕ → Bool
argument_names (Some (Calls i to f args)) (Argument k) x = option_map_or (λ (e : Expr). names e x) (slice_get args k) false
argument_names _ slot x = false

abbrev pub left_names : Option Doing → Slot → ℕ → Bool
left_names (Some (Calls i to f args)) Result x = target_names to x
left_names _ slot x = false

-- a statement names what its words do, the actual-in of an argument what that does, and the actual-out of a result what the left
-- side does; a call names nothing, since its arguments and its left side have vertices of their own
abbrev pub kind_names : Program → ℕ → VertexKind → ℕ → Bool
kind_names p f Entry x = false
kind_names p f (FormalIn slot) x = false
kind_names p f (FormalOut slot) x = false
kind_names p f (Statement i) x = statement_names (doing_at p f i) x
kind_names p f (Call i) x = false
kind_names p f (ActualIn i slot) x = argument_names (doing_at p f i) slot x
kind_names p f (ActualOut i slot) x = left_names (doing_at p f i) slot x

-- vertex v names a parameter of its function, and u is the formal-in of that parameter
pub record NamesParameter (p : Program) (vs : List Vertex) (v u : ℕ) : Type 0 where
  pub vertex : Vertex
  pub number : ℕ
  pub variable : ℕ
  pub at : slice_get vs v ≡ Some vertex
  pub parameter : slice_get (parameters p vertex.function) number ≡ Some variable
  pub named : kind_names p vertex.function vertex.kind variable ≡ true
  pub formal : IsVertex vs vertex.function (FormalIn (Argument number)) u
