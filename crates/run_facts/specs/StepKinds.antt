-- The kinds of step, with what each says of the point to which it leads.
use Rattle.std.specs.Prelude.{◌≡◌, ℕ, List, ◌∷◌, true, false, Some}
use Rattle.c_tree.specs.declared.expr.Expr.{Expr}
use Rattle.c_tree.specs.declared.statement.Target.{Target}
use Rattle.c_language.specs.Code.{Act, Code, Opens, Leaves}
use Rattle.c_meaning.specs.Values.{Types, State, variable_opened, all_closed}
use Rattle.c_meaning.specs.Acts.{Made, made, after}
use Rattle.c_meaning.specs.Activations.{Executable, code_at, types_in, called, received}
use Rattle.c_meaning.specs.Meaning.{told, announced}
use Rattle.c_meaning.specs.Steps.{Waiting, Point, point, waiting}
use Rattle.run_facts.specs.Effects.{back_in}
use Rattle.run_facts.specs.NextSteps.{Ends, Passes, Does, Calls, next_of, stores}

-- a variable begins, or the variables of a block that is left go
pub data Change : Type 0 where
  Opened : (variable : ℕ) → Change
  Closed : (variables : List ℕ) → Change

abbrev pub changed : Change → Types → State → State
changed (Opened x) = λ types s. variable_opened types x s
changed (Closed xs) = λ types s. all_closed xs s

-- the list that does it first
abbrev pub change_first : Change → Code → Code
change_first (Opened x) r = Opens x r
change_first (Closed xs) r = Leaves xs r

module _ (p : Executable) (x : Point) where
  -- a move without an act
  pub record MovesOn : Type 0 where
    pub change : Change
    pub rest : Code
    pub rest_is : x.rest ≡ change_first change rest
    pub next_is : next_of x.rest ≡ Passes (changed change) rest

  -- an act of a statement, which made this
  pub record DoesAct : Type 0 where
    pub statement : ℕ
    pub act : Act
    pub go : Made → Code
    pub value : Made
    pub next_is : next_of x.rest ≡ Does statement act go
    pub made_is : made (types_in p x.function) act x.state ≡ Some value

  -- a call of a statement, whose callee begins in this state
  pub record BeginsCall : Type 0 where
    pub statement : ℕ
    pub target : Target
    pub function : ℕ
    pub args : List Expr
    pub rest : Code
    pub begun : State
    pub next_is : next_of x.rest ≡ Calls statement target function args rest
    pub called_is : called p x.function function args x.state ≡ Some begun

  -- a return to a caller that stores no result
  pub record ReturnsOnly : Type 0 where
    pub caller : Waiting
    pub others : List Waiting
    pub next_is : next_of x.rest ≡ Ends
    pub callers_are : x.callers ≡ caller ∷ others
    pub target_is : stores caller.target ≡ false

  -- a return to a caller whose store of the result made this
  pub record ReturnsStoring : Type 0 where
    pub caller : Waiting
    pub others : List Waiting
    pub value : Made
    pub next_is : next_of x.rest ≡ Ends
    pub callers_are : x.callers ≡ caller ∷ others
    pub target_is : stores caller.target ≡ true
    pub received_is :
        received (types_in p caller.function) caller.target x.state.returned (back_in p x.function caller x.state) ≡ Some value

  -- ---- where each leads

  abbrev pub moved_to : MovesOn → Point
  moved_to k = point x.function k.rest (changed k.change (types_in p x.function) x.state) x.callers x.trace

  abbrev pub acted_to : DoesAct → Point
  acted_to k = point x.function (k.go k.value) (after k.statement k.value x.state) x.callers (told k.statement k.value x.trace)

  abbrev pub called_to : BeginsCall → Point
  called_to k =
      point k.function (code_at p k.function) k.begun (waiting k.statement k.target x.function k.rest x.state ∷ x.callers)
      (announced k.statement k.target x.trace)

  abbrev pub returned_only : ReturnsOnly → Point
  returned_only k = point k.caller.function k.caller.rest (back_in p x.function k.caller x.state) k.others x.trace

  abbrev pub returned_storing : ReturnsStoring → Point
  returned_storing k =
      point k.caller.function k.caller.rest (after k.caller.call k.value (back_in p x.function k.caller x.state)) k.others
      (told k.caller.call k.value x.trace)

  -- a step that leads to y is one of these
  pub data StepKind (y : Point) : Type 0 where
    moves : (k : MovesOn) → y ≡ moved_to k → StepKind y
    acts : (k : DoesAct) → y ≡ acted_to k → StepKind y
    begins : (k : BeginsCall) → y ≡ called_to k → StepKind y
    returns : (k : ReturnsOnly) → y ≡ returned_only k → StepKind y
    stores_result : (k : ReturnsStoring) → y ≡ returned_storing k → StepKind y
