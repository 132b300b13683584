-- What a statement list does next, without a look at the forms of statements, and a step by that.
use Rattle.std.specs.Prelude.{ℕ, List, Bool, true, false, Option, Some, None}
use Rattle.c_tree.specs.declared.expr.Expr.{Expr}
use Rattle.c_tree.specs.declared.statement.Target.{Target}
use Rattle.c_tree.specs.declared.statement.Target.TheVariants as target
use Rattle.c_language.specs.Code.{Act, Tests, Code, End, Opens, Plain, Fork, Loop, Leaves, Call, ◌⨟◌, is_true, either}
use Rattle.c_meaning.specs.Values.{Types, State, variable_opened, all_closed}
use Rattle.c_meaning.specs.Acts.{Made, made, picked}
use Rattle.c_meaning.specs.Activations.{Executable, code_at, types_in, called}
use Rattle.c_meaning.specs.Meaning.{Trace}
use Rattle.c_meaning.specs.Steps.{Step, Moves, Waiting, Point, point, waiting, acted, entered, returned_to}

-- a list ends, moves on without an act, does an act of a statement and then what its result says, or calls a function
pub data Next : Type 0 where
  Ends : Next
  Passes : (change : Types → State → State) → (rest : Code) → Next
  Does : (id : ℕ) → Act → (go : Made → Code) → Next
  Calls : (id : ℕ) → (to : Target) → (function : ℕ) → (args : List Expr) → (rest : Code) → Next

abbrev pub next_of : Code → Next
next_of End = Ends
next_of (Opens x r) = Passes (λ types s. variable_opened types x s) r
next_of (Plain i a r) = Does i a (λ x. r)
next_of (Fork i e c r) = Does i (Tests e) (λ x. c (picked x) ⨟ r)
next_of (Loop i e b r) = Does i (Tests e) (λ x. either (is_true (picked x)) (b ⨟ Loop i e b r) r)
next_of (Leaves xs r) = Passes (λ types s. all_closed xs s) r
next_of (Call i to g args r) = Calls i to g args r

-- the statement whose act comes next
abbrev pub next_id : Next → Option ℕ
next_id Ends = None
next_id (Passes change r) = None
next_id (Does i a go) = Some i
next_id (Calls i to g args r) = Some i

-- a step of a function by what its list does next
abbrev pub step_by : Executable → ℕ → Next → State → List Waiting → Trace → Step Point
step_by p f Ends s ws t = returned_to p f s ws t
step_by p f (Passes change r) s ws t = Moves (point f r (change (types_in p f) s) ws t)
step_by p f (Does i a go) s ws t = acted f i go s ws t (made (types_in p f) a s)
step_by p f (Calls i to g args r) s ws t = entered i to g (code_at p g) (waiting i to f r s) ws t (called p f g args s)

-- whether a call's result is stored
abbrev pub stores : Target → Bool
stores target.None = false
stores (target.Place e) = true
stores (target.Declared x) = true
