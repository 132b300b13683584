-- What a slice has of a criterion, and which functions hold it.
use Rattle.std.specs.Prelude.{◌≡◌, ℕ, List, Bool, true, Contains, IsTrue}
use Rattle.bit_rows.specs.Sets.{has}
use Rattle.c_tree.specs.declared.expr.Expr.{Expr}
use Rattle.c_tree.specs.declared.program.Program.{Program}
use Rattle.c_tree.specs.declared.statement.Target.{Target}
use Rattle.dep_model.specs.Doings.{Doing, Calls, doing_number, doings_of}
use Rattle.dep_model.specs.declared.edge.Edge.{Edge}
use Rattle.dep_model.specs.Criteria.{criterion_of}
use Rattle.dep_model.specs.SystemGraph.{vertices_of}
use Rattle.dep_model.specs.Words.{ReachesAny}
use Rattle.simulation_steps.specs.SlicePairs.{SlicePair}

-- a function has a statement of the criterion, or calls one that holds it
pub data Holds (p : Program) (set : ℕ → Bool) : ℕ → Type 0 where
  own : {f : ℕ} {d : Doing} → Contains (doings_of p f) d → set (doing_number d) ≡ true → Holds p set f
  by_call : {f i g : ℕ} {to : Target} {args : List Expr} → Contains (doings_of p f) (Calls i to g args) → Holds p set g → Holds p set f

-- all that reaches the criterion is kept
abbrev pub HasReaching : SlicePair → List Edge → Type 0
HasReaching pair edges =
    (v : ℕ) → ReachesAny edges (criterion_of pair.criterion (vertices_of pair.original pair.analysis)) v → IsTrue (has pair.vertices v)

-- a kept statement is one of the criterion in the slice where it is one in the program
abbrev pub IsRanked : SlicePair → Type 0
IsRanked pair = (i : ℕ) → pair.kept.statement i ≡ true → pair.ranks (pair.new.statement i) ≡ pair.criterion i
