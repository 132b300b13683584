-- Where a run stands: after a piece of what is left to do, at the end of a function, and after an act.
use Rattle.std.proofs.Common.{◌≡◌, ℕ, ℤ, List, [], ◌∷◌, ◌++◌, true, false, Option, Some, None, is_some, refl, sym, ap, ◌∙◌, subst}
use Rattle.std.specs.Global.{Vec}
use Rattle.c_tree.specs.declared.expr.Expr.{Expr}
use Rattle.c_tree.specs.declared.program.Program.{Program}
use Rattle.c_tree.specs.declared.statement.Arm.{Arm}
use Rattle.c_tree.specs.declared.statement.Statement.{Statement}
use Rattle.c_tree.specs.declared.statement.Statement.TheOpen.{Statement-F}
use Rattle.c_tree.specs.declared.statement.Target.{Target}
use Rattle.c_tree.specs.declared.statement.Target.TheVariants as target
use Rattle.c_tree.specs.Numbered.{layer_start}
use Rattle.c_language.specs.Code.{Tests, Code, End, Opens, Fork, Loop, Leaves, Call, ◌⨟◌, is_true, either, leave}
use Rattle.c_meaning.specs.Acts.{Made, made, after, picked}
use Rattle.c_meaning.specs.Activations.{executable, code_at, types_in, called, resumed, received}
use Rattle.c_meaning.specs.Meaning.{Trace, told, announced}
use Rattle.c_meaning.specs.Steps.{Stops, Waiting, Point, point, waiting, acted, entered, stored_back, went_back, step_at, step}
use Rattle.c_meaning.specs.Values.{State, all_closed}
use Rattle.c_machine.specs.declared.rests.Rest.{Rest}
use Rattle.c_machine.specs.declared.runs.Run.{Run}
use Rattle.c_machine.specs.declared.runs.Turn.{Turn}
use Rattle.c_machine.specs.declared.runs.Turn.TheVariants as turn
use Rattle.c_machine.specs.Rests.{act_of, rest_code, left_code, block_in, block_before, IsAct}
use Rattle.c_machine.specs.Runs.{IsAt, IsHeard, Acted, Tested, Leads, Settled, GoneOn, Stored, Received}
use Rattle.c_machine.specs.States.{opened_in}
use Rattle.c_machine.specs.Traces.{Before}
use Rattle.c_machine.proofs.AheadLemmas.{leads_same, leads_then, leads_move}
use Rattle.c_machine.proofs.RestLemmas.{left-push, block_then}

-- what is left to do, by the piece that was taken
pub popped_code : (l below : List Rest) (q : Rest) → l ≡ below ++ q ∷ [] → left_code l ≡ rest_code q (left_code below)
popped_code l below q e = ap left_code e ∙ left-push below q

-- ---- statements without an act

pub no_act : (z : Statement-F Statement Arm) (k : Code) → is_some (layer_start z) ≡ false → act_of z k ≡ k
no_act (Statement-F.Declare None l x i) k h = refl
no_act (Statement-F.Declare (Some id) l x i) k h = cc
no_act (Statement-F.Assign id l a op b) k h = cc
no_act (Statement-F.Bump id l a up before) k h = cc
no_act (Statement-F.Invoke id l to f args) k h = cc
no_act (Statement-F.Fetch id l to) k h = cc
no_act (Statement-F.Write id l e) k h = cc
no_act (Statement-F.Print id l format args) k h = cc
no_act (Statement-F.Heap id l to cast n) k h = cc
no_act (Statement-F.Release id l e) k h = cc
no_act (Statement-F.If id l e a b) k h = cc
no_act (Statement-F.While id l e b) k h = cc
no_act (Statement-F.Do id l e b) k h = cc
no_act (Statement-F.For id l i e s b) k h = cc
no_act (Statement-F.Switch id l e arms) k h = cc
no_act (Statement-F.Block l b) k h = refl
no_act (Statement-F.Return id l e) k h = cc

pub has_act : (z : Statement-F Statement Arm) (k : Code) → is_some (layer_start z) ≡ true → IsAct (act_of z k)
has_act (Statement-F.Declare None l x i) k h = cc
has_act (Statement-F.Declare (Some id) l x i) k h = tt
has_act (Statement-F.Assign id l a op b) k h = tt
has_act (Statement-F.Bump id l a up before) k h = tt
has_act (Statement-F.Invoke id l to f args) k h = tt
has_act (Statement-F.Fetch id l to) k h = tt
has_act (Statement-F.Write id l e) k h = tt
has_act (Statement-F.Print id l format args) k h = tt
has_act (Statement-F.Heap id l to cast n) k h = tt
has_act (Statement-F.Release id l e) k h = tt
has_act (Statement-F.If id l e a b) k h = tt
has_act (Statement-F.While id l e b) k h = tt
has_act (Statement-F.Do id l e b) k h = tt
has_act (Statement-F.For id l i e s b) k h = tt
has_act (Statement-F.Switch id l e arms) k h = tt
has_act (Statement-F.Block l b) k h = cc
has_act (Statement-F.Return id l e) k h = tt

module _ (p : Program) (before : Before) where
  -- ---- what is left to do

  -- other pieces that come to the same
  pub at_left : (r : Run) (l : Vec Rest) (x : Point) → IsAt p before r x → left_code l.items ≡ left_code r.left.items → IsAt p before (record r { left = l }) x
  at_left r l x h e =
      record { program = h.program; globals = h.globals; function = h.function; rest = e ∙ h.rest; state = h.state; callers = h.callers; trace = h.trace }

  -- a piece was taken
  pub at_popped : (r : Run) (l : Vec Rest) (x : Point) → IsAt p before r x → IsAt p before (record r { left = l }) (record x { rest = left_code l.items })
  at_popped r l x h =
      record { program = h.program; globals = h.globals; function = h.function; rest = refl; state = h.state; callers = h.callers; trace = h.trace }

  -- ---- pieces that are no act

  pub gone_same : (r : Run) (l : Vec Rest) (x : Point) → IsAt p before r x → left_code l.items ≡ left_code r.left.items → GoneOn p before None (record r { left = l }) x
  gone_same r l x h e = (x, (leads_same p x, at_left r l x h e))

  pub gone_going : (r : Run) (l : Vec Rest) (x : Point) → IsAt p before r x → left_code l.items ≡ left_code r.left.items → IsAct (left_code r.left.items) → GoneOn p before (Some turn.Going) (record r { left = l }) x
  gone_going r l x h e is = (x, (leads_same p x, (subst IsAct h.rest is, at_left r l x h e)))

  -- an act was left for later
  pub going_at : (r : Run) (l : Vec Rest) (x : Point) (k : Code) → IsAt p before r (record x { rest = k }) → left_code l.items ≡ x.rest → IsAct x.rest → GoneOn p before (Some turn.Going) (record r { left = l }) x
  going_at r l x k h e is =
      (x, (leads_same p x, (is, record { program = h.program; globals = h.globals; function = h.function; rest = e; state = h.state; callers = h.callers; trace = h.trace })))

  -- nothing was to be done
  pub same_at : (r : Run) (x : Point) (k : Code) → IsAt p before r (record x { rest = k }) → x.rest ≡ k → GoneOn p before None r x
  same_at r x k h e =
      (x, (leads_same p x, record { program = h.program; globals = h.globals; function = h.function; rest = h.rest ∙ sym e; state = h.state; callers = h.callers; trace = h.trace }))

  -- a step that begins with what is left to do
  step_with : (x : Point) (c : Code) → x.rest ≡ c → step (executable p) x ≡ step_at (executable p) x.function c x.state x.callers x.trace
  step_with x c e = ap (λ (d : Code). step_at (executable p) x.function d x.state x.callers x.trace) e

  pub gone_open : (r s : Run) (y : ℕ) (k : Code) (x : Point) → x.rest ≡ Opens y k → IsAt p before s (record x { rest = k; state = opened_in p y x.state }) → GoneOn p before None s x
  gone_open r s y k x e h =
      (record x { rest = k; state = opened_in p y x.state }, (leads_move p x (record x { rest = k; state = opened_in p y x.state }) (step_with x (Opens y k) e), h))

  leads_leave : (xs : List ℕ) (f : ℕ) (k : Code) (s : State) (ws : List Waiting) (t : Trace) → Leads p (point f (leave xs k) s ws t) (point f k (all_closed xs s) ws t)
  leads_leave [] f k s ws t = leads_same p (point f k s ws t)
  leads_leave (y ∷ ys) f k s ws t = leads_move p (point f (Leaves (y ∷ ys) k) s ws t) (point f k (all_closed (y ∷ ys) s) ws t) refl

  pub gone_leave : (s : Run) (xs : List ℕ) (k : Code) (x : Point) → x.rest ≡ leave xs k → IsAt p before s (record x { rest = k; state = all_closed xs x.state }) → GoneOn p before None s x
  gone_leave s xs k x e h =
      let y : Point = record x { rest = k; state = all_closed xs x.state } in
      (y, (subst (λ (c : Code). Leads p (point x.function c x.state x.callers x.trace) y) (sym e) (leads_leave xs x.function k x.state x.callers x.trace), h))

  -- ---- ends of functions

  step_stops : (f : ℕ) (s : State) (ws : List Waiting) (t : Trace) → ws ≡ [] → step_at (executable p) f End s ws t ≡ Stops
  step_stops f s ws t e = ap (λ (cs : List Waiting). step_at (executable p) f End s cs t) e

  pub gone_end : (r : Run) (x : Point) → IsHeard p before r x.trace → x.rest ≡ End → x.callers ≡ [] → GoneOn p before (Some turn.Ended) r x
  gone_end r x h e none = (x, (leads_same p x, (step_with x End e ∙ step_stops x.function x.state x.callers x.trace none, h)))

  -- the point in the caller before its target gets what was returned
  abbrev pub back_at : Point → Waiting → List Waiting → Point
  back_at x w ws = record {
    function = w.function;
    rest = w.rest;
    state = resumed (executable p) x.function w.frame w.returned x.state;
    callers = ws;
    trace = x.trace;
  }

  step_back : (x : Point) (w : Waiting) (ws : List Waiting) → x.rest ≡ End → x.callers ≡ w ∷ ws → step (executable p) x ≡ went_back (executable p) w.target w x.state.returned (back_at x w ws).state ws x.trace
  step_back x w ws e cs = step_with x End e ∙ ap (λ (us : List Waiting). step_at (executable p) x.function End x.state us x.trace) cs

  stored_goes : (x : Point) (w : Waiting) (ws : List Waiting) (q : Option Made) (o : Option Turn) (r : Run) → step (executable p) x ≡ stored_back w (back_at x w ws).state ws x.trace q → Stored p before w.call q o r (back_at x w ws) → GoneOn p before o r x
  stored_goes x w ws (Some m) None r e h =
      let y : Point = record (back_at x w ws) { state = after w.call m (back_at x w ws).state; trace = told w.call m x.trace } in
      (y, (leads_move p x y e, h))
  stored_goes x w ws (Some m) (Some t) r e h = absurd h
  stored_goes x w ws None None r e h = absurd h
  stored_goes x w ws None (Some t) r e h =
      subst (λ (u : Turn). Settled p before u r x) (sym h.0) (x, (leads_same p x, (e, h.1)))

  received_goes : (x : Point) (w : Waiting) (ws : List Waiting) (to : Target) (o : Option Turn) (r : Run) → step (executable p) x ≡ went_back (executable p) to w x.state.returned (back_at x w ws).state ws x.trace → Received p before w.call to x.state.returned o r (back_at x w ws) → GoneOn p before o r x
  received_goes x w ws target.None o r e h =
      subst (λ (q : Option Turn). GoneOn p before q r x) (sym h.0) (back_at x w ws, (leads_move p x (back_at x w ws) e, h.1))
  received_goes x w ws (target.Place a) o r e h = stored_goes x w ws (received (types_in (executable p) w.function) (target.Place a) x.state.returned (back_at x w ws).state) o r e h
  received_goes x w ws (target.Declared y) o r e h = stored_goes x w ws (received (types_in (executable p) w.function) (target.Declared y) x.state.returned (back_at x w ws).state) o r e h

  -- a caller goes on, or the store of its result is undefined
  pub gone_back : (x : Point) (w : Waiting) (ws : List Waiting) (o : Option Turn) (r : Run) → x.rest ≡ End → x.callers ≡ w ∷ ws → Received p before w.call w.target x.state.returned o r (back_at x w ws) → GoneOn p before o r x
  gone_back x w ws o r e cs h = received_goes x w ws w.target o r (step_back x w ws e cs) h

  -- one piece after others
  pub gone_then : (o : Option Turn) (r : Run) (x y : Point) → Leads p x y → GoneOn p before o r y → GoneOn p before o r x
  gone_then None r x y l g = (g.0, (leads_then p x y g.0 l g.1.0, g.1.1))
  gone_then (Some t) r x y l g = (g.0, (leads_then p x y g.0 l g.1.0, g.1.1))

  -- ---- acts

  abbrev went : Point → ℕ → Code → Made → Point
  went x i k m = record x { rest = k; state = after i m x.state; trace = told i m x.trace }

  -- an act that was done, or is undefined, by what it made
  pub acted_done : (x : Point) (c : Code) (i : ℕ) (go : Made → Code) (q : Option Made) (m : Made) (r : Run) → x.rest ≡ c → step_at (executable p) x.function c x.state x.callers x.trace ≡ acted x.function i go x.state x.callers x.trace q → q ≡ Some m
      → IsAt p before r (went x i (go m) m) → Acted p before None r x
  acted_done x c i go q m r e s made_is h =
      (went x i (go m) m, (step_with x c e ∙ s ∙ ap (acted x.function i go x.state x.callers x.trace) made_is, h))

  pub acted_not : (x : Point) (c : Code) (i : ℕ) (go : Made → Code) (q : Option Made) (r : Run) → x.rest ≡ c → step_at (executable p) x.function c x.state x.callers x.trace ≡ acted x.function i go x.state x.callers x.trace q → q ≡ None
      → IsHeard p before r x.trace → Acted p before (Some i) r x
  acted_not x c i go q r e s made_is h =
      (step_with x c e ∙ s ∙ ap (acted x.function i go x.state x.callers x.trace) made_is, h)

  -- a test that was met goes on with what its value picks
  pub branched : (x : Point) (i : ℕ) (a : Expr) (f : ℤ → Code) (k : Code) (v : ℤ) (body : List Statement) (r s : Run) → x.rest ≡ Fork i a f k → f v ≡ block_in body
      → left_code s.left.items ≡ block_before body k → s ≡ record r { left = s.left } → Tested p before i a (Some v) r (record x { rest = k }) → Acted p before None s x
  branched x i a f k v body r s e picks code same t =
      let m = t.0 in
      let next : f (picked m) ⨟ k ≡ block_before body k = ap (λ (z : ℤ). f z ⨟ k) t.1.1 ∙ ap (λ (c : Code). c ⨟ k) picks ∙ block_then body k in
      acted_done x (Fork i a f k) i (λ n. f (picked n) ⨟ k) (made (types_in (executable p) x.function) (Tests a) x.state) m s e refl t.1.0
      (subst (λ (c : Code). IsAt p before s (went x i c m)) (sym next)
      (subst (λ (q : Run). IsAt p before q (went x i (block_before body k) m)) (sym same)
      (record { program = t.2.program; globals = t.2.globals; function = t.2.function; rest = code; state = t.2.state; callers = t.2.callers; trace = t.2.trace })))

  -- the test of a loop goes on with a turn, or with what comes after it
  pub looped : (x : Point) (i : ℕ) (a : Expr) (b k next : Code) (v : ℤ) (m : Made) (s : Run) → x.rest ≡ Loop i a b k → made (types_in (executable p) x.function) (Tests a) x.state ≡ Some m → picked m ≡ v
      → next ≡ either (is_true v) (b ⨟ Loop i a b k) k → IsAt p before s (went x i next m) → Acted p before None s x
  looped x i a b k next v m s e made_is picks goes h =
      acted_done x (Loop i a b k) i (λ n. either (is_true (picked n)) (b ⨟ Loop i a b k) k) (made (types_in (executable p) x.function) (Tests a) x.state) m s e refl made_is
      (subst (λ (c : Code). IsAt p before s (went x i c m)) (goes ∙ ap (λ (z : ℤ). either (is_true z) (b ⨟ Loop i a b k) k) (sym picks)) h)

  pub test_not : (x : Point) (c : Code) (i : ℕ) (a : Expr) (go : Made → Code) (k : Code) (r : Run) → x.rest ≡ c → step_at (executable p) x.function c x.state x.callers x.trace ≡ acted x.function i go x.state x.callers x.trace (made (types_in (executable p) x.function) (Tests a) x.state)
      → Tested p before i a None r (record x { rest = k }) → Acted p before (Some i) r x
  test_not x c i a go k r e s t = acted_not x c i go (made (types_in (executable p) x.function) (Tests a) x.state) r e s t.0 t.1

  -- ---- calls

  pub entered_done : (x : Point) (i : ℕ) (to : Target) (g : ℕ) (args : List Expr) (k : Code) (c : State) (r : Run) → x.rest ≡ Call i to g args k → called (executable p) x.function g args x.state ≡ Some c
      → IsAt p before r (point g (code_at (executable p) g) c (waiting i to x.function k x.state ∷ x.callers) (announced i to x.trace)) → Acted p before None r x
  entered_done x i to g args k c r e h at_ = (
    point g (code_at (executable p) g) c (waiting i to x.function k x.state ∷ x.callers) (announced i to x.trace),
    (step_with x (Call i to g args k) e ∙ ap (entered i to g (code_at (executable p) g) (waiting i to x.function k x.state) x.callers x.trace) h, at_),
  )

  pub entered_not : (x : Point) (i : ℕ) (to : Target) (g : ℕ) (args : List Expr) (k : Code) (r : Run) → x.rest ≡ Call i to g args k → called (executable p) x.function g args x.state ≡ None
      → IsHeard p before r x.trace → Acted p before (Some i) r x
  entered_not x i to g args k r e h heard =
      (step_with x (Call i to g args k) e ∙ ap (entered i to g (code_at (executable p) g) (waiting i to x.function k x.state) x.callers x.trace) h, heard)
