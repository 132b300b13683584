-- How a program and its projection begin and move on, how their criteria are told, and that both give the same values there.
use Rattle.std.specs.Prelude.{◌≡◌, ℕ, List, Bool, true, IsTrue}
use Rattle.c_tree.specs.declared.program.Program.{Program}
use Rattle.dep_model.specs.SystemGraph.{Analysis, vertices_of, AreSystemEdges, IsAnalysis}
use Rattle.simulation.specs.Premises.{Moving, Beginning, Telling}
use Rattle.c_language.specs.Programs.{IsWellFormed}
use Rattle.simulation_steps.specs.OwnGlobals.{HasOwnGlobals}
use Rattle.simulation_steps.specs.SlicePairs.{SlicePair, setting_over}
use Rattle.bit_rows.specs.Sets.{has}
use Rattle.dep_model.specs.declared.edge.Edge.{Edge}
use Rattle.dep_model.specs.Criteria.{criterion_of}
use Rattle.dep_model.specs.Words.{ReachesAny}
use Rattle.c_tree.specs.Unlined.{SameButLines}
use Rattle.dep_model.specs.ClosedSets.{IsProjectable}
use Rattle.projection.specs.KeptVertices.{kept_words, projection}
use Rattle.simulation_values.specs.Holding.{Holds, HasReaching, IsRanked}
use Rattle.simulation_values.specs.SameValues.{StandFor, HasSameValues}

-- where a variable that stays begins, or some are gone of which one stays, the slice does the same of those that stay, and all that is
-- alike stays so; at another move of the original alone it stays so too
abbrev pub MovesGoTogether : Type 0
MovesGoTogether = (pair : SlicePair) (holds : ℕ → Bool) → Moving (setting_over pair (λ f. holds f ≡ true))

-- where globals have begun in a program and in its slice, the slice's blocks stand for those of the globals that stay, and all is alike
abbrev pub RunsBeginTogether : Type 0
RunsBeginTogether = (pair : SlicePair) (holds : ℕ → Bool) → Beginning (setting_over pair (λ f. holds f ≡ true))

-- each global begins once, where a run begins, and none is a variable of a function
abbrev pub GlobalsAreOwn : Type 0
GlobalsAreOwn = (p : Program) → IsWellFormed p → HasOwnGlobals p

-- where a set has all that reaches a criterion, the acts of that are kept, in activations that kept calls alone have reached, and told
-- under the numbers that they have in the slice
abbrev pub CriteriaAreTold : Type 0
CriteriaAreTold =
    (pair : SlicePair) (edges : List Edge) → AreSystemEdges pair.original pair.analysis edges → HasReaching pair edges → IsRanked pair
    → Telling (setting_over pair (λ f. Holds pair.original pair.criterion f))

-- what a set has that can be projected, with all that reaches a criterion, gives the values of the program there, whatever its form
abbrev pub ProjectionsHaveSameValues : Type 0
ProjectionsHaveSameValues =
    (p q : Program) (a : Analysis) (edges : List Edge) (kept : List Bool) (set ranks : ℕ → Bool) → IsWellFormed p
    → HasOwnGlobals p → IsAnalysis p a → AreSystemEdges p a edges → IsProjectable p (vertices_of p a) edges kept
    → ((v : ℕ) → ReachesAny edges (criterion_of set (vertices_of p a)) v → IsTrue (has kept v))
    → StandFor (kept_words kept (vertices_of p a)).statement set ranks → SameButLines q (projection p (vertices_of p a) kept)
    → HasSameValues (kept_words kept (vertices_of p a)).statement set ranks p q
