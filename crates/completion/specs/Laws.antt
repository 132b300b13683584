-- A law of completions, for programs of every form.
use Rattle.std.specs.Prelude.{◌≡◌, ◌↔◌, ℕ, Bool, List, length, IsTrue}
use Rattle.bit_rows.specs.Sets.{has}
use Rattle.c_tree.specs.declared.program.Program.{Program}
use Rattle.dep_model.specs.declared.graph.Graph.{Graph}
use Rattle.dep_model.specs.ClosedSets.{IsCompletionIn, IsProjectable}
use Rattle.dep_model.specs.Criteria.{criterion_of}
use Rattle.dep_model.specs.Graphs.{IsGraphOf}
use Rattle.dep_model.specs.Shapes.{IsShaped}
use Rattle.dep_model.specs.Words.{ReachesAny}

-- a set of a graph's vertices: exactly those that reach one of the criterion's
pub record IsReached (g : Graph) (set : ℕ → Bool) (reached : List Bool) : Type 0 where
  pub size : length reached ≡ length g.vertices
  pub exact : (v : ℕ) → IsTrue (has reached v) ↔ ReachesAny g.edges (criterion_of set g.vertices) v

-- in the shaped graph of a program, the completion of what reaches a criterion's vertices can be projected
abbrev pub CompletionsAreProjectable : Type 0
CompletionsAreProjectable =
    (p : Program) (g : Graph) (set : ℕ → Bool) (reached kept : List Bool) → IsGraphOf p g → IsShaped g
    → IsReached g set reached → IsCompletionIn p g.vertices g.edges reached kept → IsProjectable p g.vertices g.edges kept
