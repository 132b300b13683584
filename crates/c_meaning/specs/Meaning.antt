-- What a program does, as a recursion over whole statements with a number of acts.
use Rattle.std.specs.Prelude.{ℕ, zero, suc, List, [], ◌∷◌, ◌++◌, Option, Some, None, map, Bool, true, false}
use Rattle.c_tree.specs.declared.program.Program.{Program}
use Rattle.c_tree.specs.declared.statement.Target.{Target}
use Rattle.c_tree.specs.declared.statement.Target.TheVariants as target
use Rattle.c_language.specs.Words.{Bytes}
use Rattle.c_language.specs.Code.{Act, Tests, Code, End, Opens, Plain, Fork, Loop, Leaves, Call, is_true, either}
use Rattle.c_meaning.specs.declared.value.Value.{Value}
use Rattle.c_meaning.specs.declared.event.Event.{Event}
use Rattle.c_meaning.specs.Values.{Types, State, variable_opened, all_closed, shown_of}
use Rattle.c_meaning.specs.Acts.{Made, shows, made, after, picked}
use Rattle.c_meaning.specs.Activations.{Executable, executable, code_at, types_in, opening, called, resumed, received}

-- the events and the output of a run so far
pub record Trace : Type 0 where
  pub events : List Event
  pub output : Bytes

-- how a run with a number of acts ends: at its end, at an undefined act of a statement, or with no act left where one comes next
pub data Answer : Type 0 where
  Ended : Trace → Answer
  Undefined : (statement : ℕ) → Trace → Answer
  More : Trace → Answer

-- what a statement list comes to: done, with the acts that are left, or the run is over
pub data Outcome : Type 0 where
  Done : (left : ℕ) → State → Trace → Outcome
  Over : Answer → Outcome

abbrev pub Go : Type 0
Go = ℕ → State → Trace → Outcome

abbrev pub then_do : Outcome → Go → Outcome
then_do (Done n s t) go = go n s t
then_do (Over a) go = Over a

-- ---- acts

-- the trace after an act of a statement that made this
abbrev pub told : ℕ → Made → Trace → Trace
told i x t = record {
  events = t.events ++ (record { statement = i; values = map shown_of x.values }) ∷ [];
  output = t.output ++ x.output;
}

abbrev pub after_made : ℕ → Option Made → (Made → Go) → Go
after_made i None go n s t = Over (Undefined i t)
after_made i (Some x) go n s t = go x n (after i x s) (told i x t)

-- the act of a statement, if one is left, and what follows it
abbrev pub take_act : Types → ℕ → Act → (Made → Go) → Go
take_act types i a go zero s t = Over (More t)
take_act types i a go (suc n) s t = after_made i (made types a s) go n s t

-- ---- calls

-- a call without a target is told when it begins, one with a target when its result is stored
abbrev pub announced : ℕ → Target → Trace → Trace
announced i target.None t = told i (shows [] []) t
announced i (target.Place e) t = t
announced i (target.Declared x) t = t

abbrev pub after_called : ℕ → Target → Option State → Go → Go
after_called i to None go n s t = Over (Undefined i t)
after_called i to (Some c) go n s t = go n c (announced i to t)

-- the act of a call, if one is left: the callee begins in the state c, where its arguments have values
abbrev pub take_call : ℕ → Target → Option State → Go → Go
take_call i to c go zero s t = Over (More t)
take_call i to c go (suc n) s t = after_called i to c go n s t

-- back in the caller, the left side is designated and the result stored; an undefined store belongs to the act before, and names the call
abbrev pub receive : Types → ℕ → Target → Option Value → Go → Go
receive types i target.None v go n s t = go n s t
receive types i (target.Place e) v go n s t = after_made i (received types (target.Place e) v s) (λ x. go) n s t
receive types i (target.Declared x) v go n s t = after_made i (received types (target.Declared x) v s) (λ x. go) n s t

-- ---- statement lists

module _ (p : Executable) where
  -- what follows a callee g that was called from f in the state s
  abbrev pub come_back : (f g i : ℕ) → Target → State → Go → Go
  come_back f g i to s go n c t = receive (types_in p f) i to c.returned go n (resumed p g s.frame s.returned c) t

  -- a statement list of function f; `again` is what a list of a function does that is begun once more, or called, after at least one act
  abbrev pub exec : (ℕ → Code → Go) → ℕ → Code → Go
  exec again f End n s t = Done n s t
  exec again f (Opens x r) n s t = exec again f r n (variable_opened (types_in p f) x s) t
  exec again f (Plain i a r) n s t = take_act (types_in p f) i a (λ x. exec again f r) n s t
  exec again f (Fork i e c r) n s t =
      take_act (types_in p f) i (Tests e) (λ x n s t. then_do (exec again f (c (picked x)) n s t) (exec again f r)) n s t
  exec again f (Loop i e b r) n s t =
      take_act (types_in p f) i (Tests e)
      (λ x n s t. either (is_true (picked x)) (then_do (exec again f b n s t) (again f (Loop i e b r))) (exec again f r n s t)) n s t
  exec again f (Leaves xs r) n s t = exec again f r n (all_closed xs s) t
  exec again f (Call i to g args r) n s t =
      take_call i to (called p f g args s) (λ n c t. then_do (again g (code_at p g) n c t) (come_back f g i to s (exec again f r))) n s t

  -- lists begun once more at most so many times deep; each time costs an act
  abbrev pub deep : ℕ → ℕ → Code → Go
  deep zero f c n s t = Over (More t)
  deep (suc d) f c n s t = exec (deep d) f c n s t

abbrev pub answer : Outcome → Answer
answer (Done left s t) = Ended t
answer (Over a) = a

abbrev pub nothing : Trace
nothing = record { events = []; output = [] }

-- a list of function f from the opening on, with at most n acts
abbrev pub code_meaning : Executable → ℕ → ℕ → Code → List ℕ → Answer
code_meaning p f n c input = answer (deep p (suc n) f c n (opening p input) nothing)

-- main with at most n acts; reaching its end ends the run
abbrev pub main_meaning : Executable → ℕ → List ℕ → Answer
main_meaning p n input = code_meaning p p.main n (code_at p p.main) input

-- a program with at most n acts on an input, the bytes that getchar reads
abbrev pub meaning : ℕ → Program → List ℕ → Answer
meaning n p input = main_meaning (executable p) n input

abbrev pub if_in : Bool → Event → List Event → List Event
if_in true e es = e ∷ es
if_in false e es = es

-- the events at the statements of a set
abbrev pub at : (ℕ → Bool) → List Event → List Event
at set [] = []
at set (e ∷ es) = if_in (set e.statement) e (at set es)
