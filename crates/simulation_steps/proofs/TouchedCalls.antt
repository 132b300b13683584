-- What the laws on runs say of a call that comes next: what it touches, argument by argument.
use Rattle.std.proofs.Common.{◌≡◌, ℕ, List, ◌∷◌, Option, Some, ap, ◌∙◌}
use Rattle.c_tree.specs.declared.expr.Expr.{Expr}
use Rattle.c_tree.specs.declared.statement.Target.{Target}
use Rattle.c_language.specs.Code.{Code, End, Opens, Plain, Fork, Loop, Leaves, Call}
use Rattle.c_meaning.specs.Values.{State}
use Rattle.c_meaning.specs.Activations.{Executable, executable, code_at, called}
use Rattle.c_meaning.specs.Meaning.{announced}
use Rattle.c_meaning.specs.Steps.{Acts, Reaches, Point, point, waiting, entered, step, machine, beginning}
use Rattle.dep_model.specs.Doings as doing
use Rattle.dep_model.specs.Doings.{Doing}
use Rattle.run_facts.specs.Effects.{next_doing}
use Rattle.run_facts.specs.NextSteps.{Calls, next_of}
use Rattle.run_facts.specs.Touching.{DoingTouches}
use Rattle.run_facts.proofs.NextSteps.{step_of}
use Rattle.run_facts.proofs.Touched.{steps_touch}
use Rattle.simulation_steps.specs.SlicePairs.{SlicePair}

same_call : (j i : ℕ) (t to : Target) (h g : ℕ) (bs args : List Expr) → j ≡ i → t ≡ to → h ≡ g → bs ≡ args → ◌≡◌ {A = Option Doing} (Some (doing.Calls j t h bs)) (Some (doing.Calls i to g args))
same_call j i t to h g bs args e k m n = cc

next_call : (c : Code) (i : ℕ) (to : Target) (g : ℕ) (args : List Expr) (r : Code) → next_of c ≡ Calls i to g args r → next_doing c ≡ Some (doing.Calls i to g args)
next_call End i to g args r e = cc
next_call (Opens x c) i to g args r e = cc
next_call (Plain j b c) i to g args r e = cc
next_call (Fork j b c d) i to g args r e = cc
next_call (Loop j b c d) i to g args r e = cc
next_call (Leaves xs c) i to g args r e = cc
next_call (Call j t h bs c) i to g args r e =
    let first : j ≡ i = cc in
    let second : t ≡ to = cc in
    let third : h ≡ g = cc in
    let fourth : bs ≡ args = cc in
    same_call j i t to h g bs args first second third fourth

-- where the callee begins, in this state
abbrev pub begun_at : Executable → Point → (i : ℕ) → Target → ℕ → Code → State → Point
begun_at p x i to g r d = point g (code_at p g) d (waiting i to x.function r x.state ∷ x.callers) (announced i to x.trace)

pub call_touching : (pair : SlicePair) (x : Point) (i : ℕ) (to : Target) (g : ℕ) (args : List Expr) (r : Code) (d : State) → Reaches (machine (executable pair.original)) (beginning (executable pair.original) pair.input) x → next_of x.rest ≡ Calls i to g args r → called (executable pair.original) x.function g args x.state ≡ Some d → DoingTouches pair.original pair.analysis x (begun_at (executable pair.original) x i to g r d) (doing.Calls i to g args)
call_touching pair x i to g args r d reached next called_is =
    let p = executable pair.original in
    let laws = steps_touch pair.original pair.analysis pair.well pair.numbered pair.analysed pair.input x reached in
    let acts : step p x ≡ Acts (begun_at p x i to g r d) = step_of p x (Calls i to g args r) next ∙ ap (entered i to g (code_at p g) (waiting i to x.function r x.state) x.callers x.trace) called_is in
    laws.0 (begun_at p x i to g r d) (doing.Calls i to g args) (next_call x.rest i to g args r next) acts
