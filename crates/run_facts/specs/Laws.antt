-- Laws about every run of a program: what its acts touch, and on what they depend.
use Rattle.std.specs.Prelude.{◌≡◌, ℕ, List, ◌∷◌, ◌++◌, map, Some}
use Rattle.std.specs.List.{range_with_len}
use Rattle.c_tree.specs.declared.program.Program.{Program}
use Rattle.c_language.specs.Code.{End}
use Rattle.c_language.specs.Programs.{IsWellFormed}
use Rattle.c_meaning.specs.Values.{Types, State}
use Rattle.c_meaning.specs.Steps.{Acts, Moves, Reaches, Waiting, Point, step, machine, beginning}
use Rattle.dep_model.specs.Doings.{Doing, doing_number, program_doings}
use Rattle.dep_model.specs.declared.location.Location.{Location}
use Rattle.dep_model.specs.MayPoint.{MayPoint}
use Rattle.dep_model.specs.SystemGraph.{Analysis, IsAnalysis}
use Rattle.c_meaning.specs.Activations.{Executable, executable}
use Rattle.c_meaning.specs.Cells.{structs_of}
use Rattle.dep_model.specs.LocationLists.{AreStructsInOrder}
use Rattle.run_facts.specs.CellPaths.{HaveOnePath}
use Rattle.run_facts.specs.Effects.{Effect, next_doing}
use Rattle.run_facts.specs.KeptCells.{KeepsRest, step_effect, Leads}
use Rattle.run_facts.specs.NextSteps.{next_of, step_by}
use Rattle.run_facts.specs.StepKinds.{StepKind}
use Rattle.run_facts.specs.DoneEffects.{DoesEffect, returned_before}
use Rattle.run_facts.specs.SameOutcomes.{SameButCells, SameOutcomes}
use Rattle.run_facts.specs.TypedTargets.{HasTargetType}
use Rattle.run_facts.specs.UntestedMeanings.{TypesFit}
use Rattle.run_facts.specs.Touching.{DoingTouches, ReceiptTouches}
use Rattle.run_facts.specs.CoveredPoints.{IsCovered}
use Rattle.run_facts.specs.CallTouching.{Enters, Within, HasCalled, InCall}

-- what an act comes to depends on no cells but those that it reads, and so do arguments and the store after a call
abbrev pub OutcomesDependOnReads : Type 0
OutcomesDependOnReads = (types : Types) (s t : State) → SameButCells s t → SameOutcomes types s t

-- a step that is the act or the call of a statement touches what the statement's vertices say
abbrev pub DoingsTouch : Program → Analysis → Point → Type 0
DoingsTouch p a x = (y : Point) (d : Doing) → next_doing x.rest ≡ Some d → step (executable p) x ≡ Acts y → DoingTouches p a x y d

-- and so does the store after a call, at the end of the function that was called
abbrev pub ReceiptsTouch : Program → Analysis → Point → Type 0
ReceiptsTouch p a x =
    (y : Point) (w : Waiting) (ws : List Waiting) → x.rest ≡ End → x.callers ≡ w ∷ ws → step (executable p) x ≡ Moves y → ReceiptTouches p a x w

-- the steps of a run of a well-formed program touch what the vertices of its statements say, where those have the numbers 0, 1, and so
-- on, function by function
abbrev pub StepsTouchWhatVerticesSay : Type 0
StepsTouchWhatVerticesSay =
    (p : Program) (a : Analysis) → IsWellFormed p → map doing_number (program_doings p) ≡ range_with_len 0 p.statements → IsAnalysis p a
    → (input : List ℕ) (x : Point) → Reaches (machine (executable p)) (beginning (executable p) input) x
    → DoingsTouch p a x × ReceiptsTouch p a x

-- what a program does from a point is what its list does next
abbrev pub StepsAreNext : Type 0
StepsAreNext = (p : Executable) (x : Point) → step p x ≡ step_by p x.function (next_of x.rest) x.state x.callers x.trace

-- a step that leads to a point is of one of the kinds
abbrev pub StepsHaveKinds : Type 0
StepsHaveKinds = (p : Executable) (x y : Point) → Leads p x y → StepKind p x y

-- where no struct type has itself or a later one in it, each cell has one path
abbrev pub CellsHaveOnePath : Type 0
CellsHaveOnePath = (p : Program) → AreStructsInOrder p → HaveOnePath (structs_of p)

-- a step changes no cell but those into which its effect stores
abbrev pub StepsKeepTheRest : Type 0
StepsKeepTheRest = (p : Executable) (x y : Point) (e : Effect) → Leads p x y → step_effect p x ≡ Some e → KeepsRest x.state y.state e

-- a step does its effect
abbrev pub StepsDoTheirEffects : Type 0
StepsDoTheirEffects =
    (p : Executable) (x y : Point) (e : Effect) → Leads p x y → step_effect p x ≡ Some e → DoesEffect x.state y.state (returned_before x) e

-- between a call and its return, cells of blocks that were there before the call are read only at locations that the function uses, and
-- stored into only at locations that it modifies, and the input likewise; so what it doesn't modify is as it was before the call. At
-- locations that are seen outside the second holds of blocks of any age
abbrev pub CallsTouchWhatFunctionsSay : Type 0
CallsTouchWhatFunctionsSay =
    (p : Program) (a : Analysis) → IsWellFormed p → IsAnalysis p a → (input : List ℕ) (x y z : Point) (g : ℕ)
    → Reaches (machine (executable p)) (beginning (executable p) input) x → Enters (executable p) x y g
    → Within (executable p) y.callers y z → InCall p a g x y z

-- so it is at each point of a run for each caller that waits there: it has made its call at a point of the run, and that hasn't returned
abbrev pub CallersHaveCalled : Type 0
CallersHaveCalled =
    (p : Executable) (input : List ℕ) (z : Point) → Reaches (machine p) (beginning p input) z → (above ws : List Waiting) (w : Waiting)
    → z.callers ≡ above ++ (w ∷ ws) → HasCalled p (beginning p input) above ws w z

-- wherever a run of a well-formed program stands, its pointers lead where points-to says
abbrev pub PointsToCoversRuns : Type 0
PointsToCoversRuns =
    (p : Program) (a : Analysis) → IsWellFormed p → IsAnalysis p a → (input : List ℕ) (x : Point)
    → Reaches (machine (executable p)) (beginning (executable p) input) x → IsCovered p a.points x

-- and the tests of types let each expression through
abbrev pub TypesAlwaysFit : Type 0
TypesAlwaysFit =
    (p : Program) (a : Analysis) → IsWellFormed p → IsAnalysis p a → (input : List ℕ) (x : Point)
    → Reaches (machine (executable p)) (beginning (executable p) input) x → TypesFit p x

-- each pair of points-to ends in a location of what its pointer's type points to
abbrev pub TargetsHaveTheType : Type 0
TargetsHaveTheType = (p : Program) → IsWellFormed p → (l m : Location) → MayPoint p l m → HasTargetType p l m
