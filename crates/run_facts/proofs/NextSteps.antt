-- A step by what a list does next; points that one more step reaches.
use Rattle.std.proofs.Common.{◌≡◌, ℕ, List, ◌∷◌, Option, true, false, refl, ap, ◌∙◌}
use Rattle.c_tree.specs.declared.statement.Target.{Target}
use Rattle.c_tree.specs.declared.statement.Target.TheVariants as target
use Rattle.c_language.specs.Code.{Code, End, Opens, Plain, Fork, Loop, Leaves, Call}
use Rattle.c_meaning.specs.declared.value.Value.{Value}
use Rattle.c_meaning.specs.Values.{State}
use Rattle.c_meaning.specs.Activations.{Executable, types_in, resumed, received}
use Rattle.c_meaning.specs.Meaning.{Trace}
use Rattle.c_meaning.specs.Steps.{Acts, Moves, Machine, Reaches, here, by_act, by_move, Waiting, Point, point, stored_back, went_back, returned_to, step_at, step}
use Rattle.run_facts.specs.Laws.{StepsAreNext}
use Rattle.run_facts.specs.NextSteps.{Next, Ends, next_of, step_by, stores}

-- ---- a step

step_is : (p : Executable) (f : ℕ) (c : Code) (s : State) (ws : List Waiting) (t : Trace) → step_at p f c s ws t ≡ step_by p f (next_of c) s ws t
step_is p f End s ws t = refl
step_is p f (Opens x r) s ws t = refl
step_is p f (Plain i a r) s ws t = refl
step_is p f (Fork i e c r) s ws t = refl
step_is p f (Loop i e b r) s ws t = refl
step_is p f (Leaves xs r) s ws t = refl
step_is p f (Call i to g args r) s ws t = refl

pub steps_are_next : StepsAreNext
steps_are_next p x = step_is p x.function x.rest x.state x.callers x.trace

pub step_of : (p : Executable) (x : Point) (k : Next) → next_of x.rest ≡ k → step p x ≡ step_by p x.function k x.state x.callers x.trace
step_of p x k e =
    steps_are_next p x ∙ ap (λ (j : Next). step_by p x.function j x.state x.callers x.trace) e

-- ---- a return

pub step_back : (p : Executable) (x : Point) (ws : List Waiting) → next_of x.rest ≡ Ends → x.callers ≡ ws → step p x ≡ returned_to p x.function x.state ws x.trace
step_back p x ws e c = step_of p x Ends e ∙ ap (λ (us : List Waiting). returned_to p x.function x.state us x.trace) c

back_plain : (p : Executable) (to : Target) (w : Waiting) (v : Option Value) (s : State) (ws : List Waiting) (t : Trace) → stores to ≡ false → went_back p to w v s ws t ≡ Moves (point w.function w.rest s ws t)
back_plain p target.None w v s ws t e = refl
back_plain p (target.Place l) w v s ws t e = cc
back_plain p (target.Declared x) w v s ws t e = cc

back_stored : (p : Executable) (to : Target) (w : Waiting) (v : Option Value) (s : State) (ws : List Waiting) (t : Trace) → stores to ≡ true → went_back p to w v s ws t ≡ stored_back w s ws t (received (types_in p w.function) to v s)
back_stored p target.None w v s ws t e = cc
back_stored p (target.Place l) w v s ws t e = refl
back_stored p (target.Declared x) w v s ws t e = refl

-- where the result isn't stored
pub step_plain : (p : Executable) (x : Point) (a : Waiting) (ws : List Waiting) → next_of x.rest ≡ Ends → x.callers ≡ a ∷ ws → stores a.target ≡ false → step p x ≡ Moves (point a.function a.rest (resumed p x.function a.frame a.returned x.state) ws x.trace)
step_plain p x a ws e c h =
    step_back p x (a ∷ ws) e c ∙ back_plain p a.target a x.state.returned (resumed p x.function a.frame a.returned x.state) ws x.trace h

-- where it is
pub step_stored : (p : Executable) (x : Point) (a : Waiting) (ws : List Waiting) → next_of x.rest ≡ Ends → x.callers ≡ a ∷ ws → stores a.target ≡ true → step p x ≡ stored_back a (resumed p x.function a.frame a.returned x.state) ws x.trace (received (types_in p a.function) a.target x.state.returned (resumed p x.function a.frame a.returned x.state))
step_stored p x a ws e c h =
    step_back p x (a ∷ ws) e c ∙ back_stored p a.target a x.state.returned (resumed p x.function a.frame a.returned x.state) ws x.trace h

-- ---- one step more

pub reach_act : (g : Machine) (s t u : g.State) → Reaches g s t → g.step t ≡ Acts u → Reaches g s u
reach_act g s t u here e = by_act e here
reach_act g s t u (by_act {t = r} d more) e = by_act d (reach_act g r t u more e)
reach_act g s t u (by_move {t = r} d more) e = by_move d (reach_act g r t u more e)

pub reach_move : (g : Machine) (s t u : g.State) → Reaches g s t → g.step t ≡ Moves u → Reaches g s u
reach_move g s t u here e = by_move e here
reach_move g s t u (by_act {t = r} d more) e = by_act d (reach_move g r t u more e)
reach_move g s t u (by_move {t = r} d more) e = by_move d (reach_move g r t u more e)
