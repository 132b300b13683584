-- Small steps: what a run does next, one act at a time, with the callers that wait; and what a state comes to.
use Rattle.std.specs.Prelude.{◌≡◌, ℕ, suc, List, [], ◌∷◌, Option, Some, None}
use Rattle.c_tree.specs.declared.statement.Target.{Target}
use Rattle.c_tree.specs.declared.statement.Target.TheVariants as target
use Rattle.c_language.specs.Code.{Tests, Code, End, Opens, Plain, Fork, Loop, Leaves, Call, ◌⨟◌, is_true, either}
use Rattle.c_meaning.specs.declared.value.Value.{Value}
use Rattle.c_meaning.specs.Values.{State, variable_opened, all_closed}
use Rattle.c_meaning.specs.Acts.{Made, made, after, picked}
use Rattle.c_meaning.specs.Activations.{Executable, code_at, types_in, opening, called, resumed, received}
use Rattle.c_meaning.specs.Meaning.{Trace, Answer, Ended, Undefined, More, told, announced, nothing}

-- ---- machines

-- what a machine does from a state: it stops, fails in the act of a statement, acts, moves on without an act, or breaks, which is to fail
-- in what follows an act
pub data Step (S : Type 0) : Type 0 where
  Stops : Step S
  Fails : (statement : ℕ) → Step S
  Acts : S → Step S
  Moves : S → Step S
  Breaks : (statement : ℕ) → Step S

pub record Machine : Type 1 where
  pub State : Type 0
  pub step : State → Step State
  pub trace : State → Trace

-- what a state comes to with at most n acts
pub data Runs (g : Machine) : ℕ → g.State → Answer → Type 0 where
  stop : {n : ℕ} {s : g.State} → g.step s ≡ Stops → Runs g n s (Ended (g.trace s))
  fail : {n i : ℕ} {s : g.State} → g.step s ≡ Fails i → Runs g (suc n) s (Undefined i (g.trace s))
  fail_none : {i : ℕ} {s : g.State} → g.step s ≡ Fails i → Runs g 0 s (More (g.trace s))
  act_none : {s t : g.State} → g.step s ≡ Acts t → Runs g 0 s (More (g.trace s))
  act : {n : ℕ} {s t : g.State} {a : Answer} → g.step s ≡ Acts t → Runs g n t a → Runs g (suc n) s a
  move : {n : ℕ} {s t : g.State} {a : Answer} → g.step s ≡ Moves t → Runs g n t a → Runs g n s a
  broken : {n i : ℕ} {s : g.State} → g.step s ≡ Breaks i → Runs g n s (Undefined i (g.trace s))

-- a state that some steps lead to from another
pub data Reaches (g : Machine) : g.State → g.State → Type 0 where
  here : {s : g.State} → Reaches g s s
  by_act : {s t u : g.State} → g.step s ≡ Acts t → Reaches g t u → Reaches g s u
  by_move : {s t u : g.State} → g.step s ≡ Moves t → Reaches g t u → Reaches g s u

-- ---- programs as machines

-- a caller that waits: its call with the target, its function with what it does next, and what it can name and has returned
pub record Waiting : Type 0 where
  pub call : ℕ
  pub target : Target
  pub function : ℕ
  pub rest : Code
  pub frame : ℕ → Option ℕ
  pub returned : Option Value

-- where a run stands: the function that runs with what it does next, the state, the callers that wait, the last one first, and the trace
pub record Point : Type 0 where
  pub function : ℕ
  pub rest : Code
  pub state : State
  pub callers : List Waiting
  pub trace : Trace

abbrev pub point : ℕ → Code → State → List Waiting → Trace → Point
point f c s ws t = record { function = f; rest = c; state = s; callers = ws; trace = t }

abbrev pub waiting : ℕ → Target → ℕ → Code → State → Waiting
waiting i to f r s = record { call = i; target = to; function = f; rest = r; frame = s.frame; returned = s.returned }

-- an act that made this, and what is done next
abbrev pub acted : ℕ → ℕ → (Made → Code) → State → List Waiting → Trace → Option Made → Step Point
acted f i go s ws t None = Fails i
acted f i go s ws t (Some x) = Acts (point f (go x) (after i x s) ws (told i x t))

-- a call whose callee begins in this state
abbrev pub entered : ℕ → Target → ℕ → Code → Waiting → List Waiting → Trace → Option State → Step Point
entered i to g c w ws t None = Fails i
entered i to g c w ws t (Some s) = Acts (point g c s (w ∷ ws) (announced i to t))

-- a caller goes on, once its target got this
abbrev pub stored_back : Waiting → State → List Waiting → Trace → Option Made → Step Point
stored_back w s ws t None = Breaks w.call
stored_back w s ws t (Some x) = Moves (point w.function w.rest (after w.call x s) ws (told w.call x t))

module _ (p : Executable) where
  -- a caller goes on in this state, where its callee returned this
  abbrev pub went_back : Target → Waiting → Option Value → State → List Waiting → Trace → Step Point
  went_back target.None w v s ws t = Moves (point w.function w.rest s ws t)
  went_back (target.Place e) w v s ws t = stored_back w s ws t (received (types_in p w.function) (target.Place e) v s)
  went_back (target.Declared x) w v s ws t = stored_back w s ws t (received (types_in p w.function) (target.Declared x) v s)

  -- the end of function g: of the run, or of a call
  abbrev pub returned_to : ℕ → State → List Waiting → Trace → Step Point
  returned_to g s [] t = Stops
  returned_to g s (w ∷ ws) t = went_back w.target w s.returned (resumed p g w.frame w.returned s) ws t

  abbrev pub step_at : ℕ → Code → State → List Waiting → Trace → Step Point
  step_at f End s ws t = returned_to f s ws t
  step_at f (Opens x r) s ws t = Moves (point f r (variable_opened (types_in p f) x s) ws t)
  step_at f (Plain i a r) s ws t = acted f i (λ x. r) s ws t (made (types_in p f) a s)
  step_at f (Fork i e c r) s ws t = acted f i (λ x. c (picked x) ⨟ r) s ws t (made (types_in p f) (Tests e) s)
  step_at f (Loop i e b r) s ws t =
      acted f i (λ x. either (is_true (picked x)) (b ⨟ Loop i e b r) r) s ws t (made (types_in p f) (Tests e) s)
  step_at f (Leaves xs r) s ws t = Moves (point f r (all_closed xs s) ws t)
  step_at f (Call i to g args r) s ws t = entered i to g (code_at p g) (waiting i to f r s) ws t (called p f g args s)

  abbrev pub step : Point → Step Point
  step x = step_at x.function x.rest x.state x.callers x.trace

  abbrev pub machine : Machine
  machine = record { State = Point; step = step; trace = λ x. x.trace }

  -- main begins, where the globals have begun
  abbrev pub beginning : List ℕ → Point
  beginning input = point p.main (code_at p p.main) (opening p input) [] nothing
