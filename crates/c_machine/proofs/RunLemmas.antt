-- Runs: what the calls of the code change of where a run stands.
use Rattle.std.proofs.Common.{◌≡◌, ℕ, ℤ, ◌+◌, ◌<◌, length, List, [], ◌∷◌, ◌++◌, map, Bool, true, false, Option, Some, None, option_map, refl, sym, ap, ap₂, ◌∙◌, subst, arith}
use Rattle.std.specs.Global.{Vec}
use Rattle.std.specs.Borrow.{Bor}
use Rattle.std.specs.Option.{option_copied}
use Rattle.std.specs.Prelude.{Result, Ok, Err, IfOk, option_and_then, slice_get}
use Rattle.c_tree.specs.declared.expr.Expr.{Expr}
use Rattle.c_tree.specs.declared.program.Function.{Function}
use Rattle.c_tree.specs.declared.program.Program.{Program}
use Rattle.c_tree.specs.declared.statement.Target.{Target}
use Rattle.c_tree.specs.declared.statement.Target.TheVariants as target
use Rattle.c_tree.specs.declared.types.CType.{CType}
use Rattle.c_language.specs.TreeTypes.{typing_of, shape_of}
use Rattle.c_language.specs.declared.expr_type.ExprType.{ExprType}
use Rattle.c_tree.specs.declared.statement.Statement.{Statement}
use Rattle.c_language.specs.Code.{Act, Code, Plain, Loop, ◌⨟◌, is_true, either, declared_in, part}
use Rattle.c_meaning.specs.declared.value.Value.{Value}
use Rattle.c_meaning.specs.declared.value.Value.TheVariants.{Number}
use Rattle.c_meaning.specs.declared.event.Shown.{Shown}
use Rattle.c_meaning.specs.declared.event.Shown.TheVariants as shown
use Rattle.c_meaning.specs.Acts.{Made, made, given, shows, after}
use Rattle.c_meaning.specs.Activations.{Executable, Global, executable, code_at, result_at, types_in, fresh, called, received, variables_at, opening, blank, all_begun, global_begun}
use Rattle.c_meaning.specs.Meaning.{Trace, told, if_in}
use Rattle.c_meaning.specs.Steps.{Waiting, Point, waiting, beginning}
use Rattle.c_meaning.specs.Values.{State, eval, eval_all, tested, all_closed, variable_closed}
use Rattle.c_memory.specs.declared.scene.Scene.{Scene}
use Rattle.c_memory.specs.Scenes.{frame_of, types_of, state_in, scene}
use Rattle.c_memory.specs.Scenes as scenes
use Rattle.c_machine.specs.declared.rests.Rest.{Rest}
use Rattle.c_machine.specs.declared.runs.Caller.{Caller}
use Rattle.c_acts.specs.declared.makings.Made.{Made as Making}
use Rattle.c_machine.specs.declared.runs.Run.{Run}
use Rattle.c_machine.specs.declared.runs.Turn.{Turn}
use Rattle.c_machine.specs.declared.runs.Turn.TheVariants as turn
use Rattle.c_machine.specs.declared.states.State.{State as Standing}
use Rattle.c_machine.specs.declared.traces.Trace.{Trace as Told}
use Rattle.c_acts.specs.Makings.{seen, made_in, made_from, made_by, types_for}
use Rattle.c_machine.specs.Rests.{left_code, block_before, list_before}
use Rattle.c_machine.specs.Runs.{waiting_of, callers_before, IsAt, IsHeard, Acted, Tested, Stored, Received}
use Rattle.c_machine.specs.Sizes.{rest_size, left_size, callers_size, run_size}
use Rattle.c_machine.specs.States.{IsState, as_parameters}
use Rattle.c_machine.specs.Traces.{Before, nothing_before, watches, IsTold}
use Rattle.c_acts.proofs.ActLemmas.{given_typed}
use Rattle.c_machine.proofs.CallLemmas.{callers-push, go, called_is, variables_found, variables_missing}
use Rattle.c_acts.proofs.MadeLemmas.{value_at, given_at, made_at, made_some, made_none}
use Rattle.c_machine.proofs.PointLemmas.{back_at, acted_done, acted_not, looped}
use Rattle.c_machine.proofs.SizeLemmas.{left_size-push, callers_size-push}
use Rattle.c_machine.proofs.StateLemmas.{closed-append}
use Rattle.c_machine.proofs.TraceLemmas.{told_more}

-- ---- results

-- what holds of every value holds of one that a call answers
pub ok_always : {T E : Type 0} (r : Result T E) (Q : T → Type 0) → ((v : T) → Q v) → IfOk r Q
ok_always (Ok v) Q f = f v
ok_always (Err e) Q f = tt

pub no_items : {A : Type 0} (xs : List A) → length xs ≡ 0 → xs ≡ []
no_items [] e = refl
no_items (x ∷ xs) e = let no : ⊥ = omega (arith, e) in absurd no

-- ---- tests

test_undefined : (q : Option Value) → None ≡ option_map tested q → option_map (λ (v : Value). shows (Number (tested v) ∷ []) []) q ≡ None
test_undefined None e = refl
test_undefined (Some v) e = cc

test_gives : (v : ℤ) (q : Option Value) → Some v ≡ option_map tested q → option_map (λ (w : Value). shows (Number (tested w) ∷ []) []) q ≡ Some (shows (Number v ∷ []) [])
test_gives v None e = cc
test_gives v (Some w) e = let f : v ≡ tested w = cc in ap (λ (z : ℤ). Some (shows (Number z ∷ []) [])) (sym f)

-- ---- ends of functions

pub closed-returned : (xs : List ℕ) (s : State) → (all_closed xs s).returned ≡ s.returned
closed-returned [] s = refl
closed-returned (x ∷ xs) s = closed-returned xs (variable_closed x s)

-- ---- what is left to do gets less

pub smaller : (r s : Run) → left_size s.left.items < left_size r.left.items → s.callers ≡ r.callers → run_size s < run_size r
smaller r s less same = let e : callers_size s.callers.items ≡ callers_size r.callers.items = ap (λ (cs : Vec Caller). callers_size cs.items) same in omega (arith, less, e)

pub popped_size : (l below : List Rest) (q : Rest) → l ≡ below ++ q ∷ [] → left_size l ≡ left_size below + rest_size q
popped_size l below q e = ap left_size e ∙ left_size-push below q

pub come_smaller : (r s : Run) (cs : Vec Caller) (k : Caller) → r.left.items ≡ [] → r.callers.items ≡ cs.items ++ k ∷ [] → s.left ≡ k.left → s.callers ≡ cs → run_size s < run_size r
come_smaller r s cs k none pushed left callers =
    let a : left_size s.left.items ≡ left_size k.left.items = ap (λ (l : Vec Rest). left_size l.items) left in
    let b : callers_size s.callers.items ≡ callers_size cs.items = ap (λ (l : Vec Caller). callers_size l.items) callers in
    let c : left_size r.left.items ≡ 0 = ap left_size none in
    let d : callers_size r.callers.items ≡ callers_size cs.items + (1 + left_size k.left.items) = ap callers_size pushed ∙ callers_size-push cs.items k in
    omega (arith, a, b, c, d)

module _ (p : Program) (before : Before) where
  -- another state, and more that was told
  pub at_with : (r : Run) (st : Standing) (tr : Told) (x : Point) (s : State) (t : Trace) → IsState st s → IsTold before tr t → IsAt p before r x → IsAt p before (record r { state = st; trace = tr }) (record x { state = s; trace = t })
  at_with r st tr x s t hs ht h =
      record { program = h.program; globals = h.globals; function = h.function; rest = h.rest; state = hs; callers = h.callers; trace = ht }

  pub at_state : (r : Run) (st : Standing) (x : Point) (s : State) → IsState st s → IsAt p before r x → IsAt p before (record r { state = st }) (record x { state = s })
  at_state r st x s hs h =
      record { program = h.program; globals = h.globals; function = h.function; rest = h.rest; state = hs; callers = h.callers; trace = h.trace }

  pub at_trace : (r : Run) (tr : Told) (x : Point) (t : Trace) → IsTold before tr t → IsAt p before r x → IsAt p before (record r { trace = tr }) (record x { trace = t })
  at_trace r tr x t ht h =
      record { program = h.program; globals = h.globals; function = h.function; rest = h.rest; state = h.state; callers = h.callers; trace = ht }

  pub heard_at : (r : Run) (x : Point) → IsAt p before r x → IsHeard p before r x.trace
  heard_at r x h = record { program = h.program; trace = h.trace }

  -- ---- where expressions are evaluated

  pub scene_frame : (r : Run) (x : Point) (sc : Scene) → IsAt p before r x → sc.frame.now ≡ r.state.frame.items → (state_in sc).frame ≡ x.state.frame
  scene_frame r x sc h e = ap frame_of e ∙ h.state.frame

  pub scene_memory : (r : Run) (x : Point) (sc : Scene) → IsAt p before r x → sc.memory.now ≡ r.state.memory → (state_in sc).memory ≡ x.state.memory
  scene_memory r x sc h e = e ∙ h.state.memory

  pub scene_value : (r : Run) (x : Point) (sc : Scene) (e : Expr) → IsAt p before r x → sc.program.now ≡ r.program.now → sc.frame.now ≡ r.state.frame.items → sc.memory.now ≡ r.state.memory
      → eval (scenes.types_in sc) e (state_in sc) ≡ eval (types_in (executable p) x.function) e x.state
  scene_value r x sc e h ep ef em =
      ap (λ (q : Program). eval (types_of q) e (state_in sc)) (ep ∙ h.program)
      ∙ value_at (types_of p) e x.state (state_in sc) (scene_frame r x sc h ef) (scene_memory r x sc h em)

  -- ---- tests

  pub tested_not : (r : Run) (x : Point) (sc : Scene) (i : ℕ) (e : Expr) → IsAt p before r x → sc.program.now ≡ r.program.now → sc.frame.now ≡ r.state.frame.items → sc.memory.now ≡ r.state.memory
      → None ≡ option_map tested (eval (scenes.types_in sc) e (state_in sc)) → Tested p before i e None r x
  tested_not r x sc i e h ep ef em none =
      (test_undefined (eval (types_in (executable p) x.function) e x.state) (none ∙ ap (option_map tested) (scene_value r x sc e h ep ef em)), heard_at r x h)

  pub tested_so : (r : Run) (tr : Told) (x : Point) (sc : Scene) (i : ℕ) (e : Expr) (v : ℤ) (vs : List Shown) → IsAt p before r x → sc.program.now ≡ r.program.now → sc.frame.now ≡ r.state.frame.items → sc.memory.now ≡ r.state.memory
      → Some v ≡ option_map tested (eval (scenes.types_in sc) e (state_in sc)) → vs ≡ shown.Number v ∷ []
      → tr.events.items ≡ r.trace.events.items ++ if_in (watches (option_copied r.trace.watched) i) (record { statement = i; values = vs }) []
      → tr.output.items ≡ r.trace.output.items ++ [] → tr.watched ≡ r.trace.watched → Tested p before i e (Some v) (record r { trace = tr }) x
  tested_so r tr x sc i e v vs h ep ef em some shown_is es os ws =
      let m : Made = shows (Number v ∷ []) [] in
      let state_is : IsState r.state (after i m x.state) = record { frame = h.state.frame; returned = h.state.returned; memory = h.state.memory; unread = h.state.unread } in (
        m,
        (test_gives v (eval (types_in (executable p) x.function) e x.state) (some ∙ ap (option_map tested) (scene_value r x sc e h ep ef em)), refl),
        at_with r r.state tr x (after i m x.state) (told i m x.trace) state_is (told_more before i vs [] m r.trace tr x.trace shown_is refl es os ws h.trace) h,
      )

  -- ---- ends of functions

  -- the last caller was taken
  pub callers_taken : (r : Run) (cs : Vec Caller) (k : Caller) (x : Point) → r.callers.items ≡ cs.items ++ k ∷ [] → IsAt p before r x → x.callers ≡ waiting_of k ∷ callers_before cs.items []
  callers_taken r cs k x e h = sym h.callers ∙ ap (λ (l : List Caller). callers_before l []) e ∙ callers-push cs.items k []

  pub at_callers : (r : Run) (cs : Vec Caller) (x : Point) → IsAt p before r x → IsAt p before (record r { callers = cs }) (record x { callers = callers_before cs.items [] })
  at_callers r cs x h =
      record { program = h.program; globals = h.globals; function = h.function; rest = h.rest; state = h.state; callers = refl; trace = h.trace }

  -- the caller goes on where it was left
  pub at_back : (r s : Run) (k : Caller) (x : Point) (ws : List Waiting) → IsAt p before r (record x { callers = ws; state = all_closed (variables_at (executable p) x.function) x.state }) → s.program ≡ r.program → s.globals ≡ r.globals
      → s.function ≡ k.function → s.left ≡ k.left → s.callers ≡ r.callers → s.trace ≡ r.trace → s.state.frame ≡ k.frame → s.state.returned ≡ k.returned → s.state.memory ≡ r.state.memory → s.state.unread ≡ r.state.unread
      → IsAt p before s (back_at p before x (waiting_of k) ws)
  at_back r s k x ws h pe ge fe le ce te ve re me ue =
      record {
        program = ap (λ (q : Bor Program). q.now) pe ∙ h.program;
        globals = ap (λ (q : Vec (Option ℕ)). frame_of q.items) ge ∙ h.globals;
        function = fe;
        rest = ap (λ (q : Vec Rest). left_code q.items) le;
        state = record { frame = ap (λ (q : Vec (Option ℕ)). frame_of q.items) ve; returned = re; memory = me ∙ h.state.memory; unread = ap (λ (q : Bor (List ℕ)). q.now) ue ∙ h.state.unread };
        callers = ap (λ (q : Vec Caller). callers_before q.items []) ce ∙ h.callers;
        trace = subst (λ (q : Told). IsTold before q x.trace) (sym te) h.trace;
      }

  -- the variables of the function that ends are gone
  pub ended_with : (r : Run) (st : Standing) (x : Point) (f : Function) (ps ds : List ℕ) → IsAt p before r x → Some f ≡ slice_get r.program.now.functions r.function → ps ≡ f.params → ds ≡ declared_in (map part f.body)
      → IsState st (all_closed ds (all_closed ps x.state)) → IsAt p before (record r { state = st }) (record x { state = all_closed (variables_at (executable p) x.function) x.state })
  ended_with r st x f ps ds h found pe de is =
      let here : Some f ≡ slice_get p.functions x.function = found ∙ ap₂ (λ (q : Program) (g : ℕ). slice_get q.functions g) h.program h.function in
      let vars : ps ++ ds ≡ variables_at (executable p) x.function = ap₂ (λ (a b : List ℕ). a ++ b) pe de ∙ sym (variables_found p x.function f here) in
      at_state r st x (all_closed (variables_at (executable p) x.function) x.state)
      (subst (λ (vs : List ℕ). IsState st (all_closed vs x.state)) vars (subst (λ (t : State). IsState st t) (sym (closed-append ps ds x.state)) is)) h

  pub ended_alone : (r : Run) (x : Point) → IsAt p before r x → None ≡ slice_get r.program.now.functions r.function → IsAt p before r (record x { state = all_closed (variables_at (executable p) x.function) x.state })
  ended_alone r x h found =
      let here : None ≡ slice_get p.functions x.function = found ∙ ap₂ (λ (q : Program) (g : ℕ). slice_get q.functions g) h.program h.function in
      subst (λ (vs : List ℕ). IsAt p before r (record x { state = all_closed vs x.state })) (sym (variables_missing p x.function here)) h

  -- ---- loops

  -- the test of a loop is met: a turn is done, and the test comes again
  pub turn_begun : (r : Run) (l : Vec Rest) (x : Point) (i : ℕ) (a : Expr) (b k again : Code) (v : ℤ) (body step : List Statement) → x.rest ≡ Loop i a b k → again ≡ x.rest → ((c : Code) → b ⨟ c ≡ block_before body (list_before step c))
      → is_true v ≡ true → left_code l.items ≡ block_before body (list_before step again) → Tested p before i a (Some v) r (record x { rest = k }) → Acted p before None (record r { left = l }) x
  turn_begun r l x i a b k again v body step e ae does met left t =
      let m = t.0 in
      let next : left_code l.items ≡ b ⨟ Loop i a b k = left ∙ ap (λ (c : Code). block_before body (list_before step c)) (ae ∙ e) ∙ sym (does (Loop i a b k)) in
      looped p before x i a b k (left_code l.items) v m (record r { left = l }) e t.1.0 t.1.1 (next ∙ ap (λ (c : Bool). either c (b ⨟ Loop i a b k) k) (sym met))
      (record { program = t.2.program; globals = t.2.globals; function = t.2.function; rest = refl; state = t.2.state; callers = t.2.callers; trace = t.2.trace })

  -- it isn't met, and what comes after the loop is done next
  pub turn_over : (r : Run) (x : Point) (i : ℕ) (a : Expr) (b k : Code) (v : ℤ) → x.rest ≡ Loop i a b k → is_true v ≡ false → Tested p before i a (Some v) r (record x { rest = k }) → Acted p before None r x
  turn_over r x i a b k v e unmet t =
      looped p before x i a b k k v t.0 r e t.1.0 t.1.1 (ap (λ (c : Bool). either c (b ⨟ Loop i a b k) k) (sym unmet)) t.2

  -- ---- calls

  -- the state in which the callee begins, by the arguments as its parameters have them
  pub called_here : (r : Run) (x : Point) (g : ℕ) (args : List Expr) (callee : Function) (o : Option (List Value)) → IsAt p before r x → Some callee ≡ slice_get r.program.now.functions g
      → o ≡ option_and_then (as_parameters r.program.now callee.params) (eval_all (types_of r.program.now) args (scene r.state.frame.items r.state.memory)) → called (executable p) x.function g args x.state ≡ go p callee.params (fresh (executable p) x.state) o
  called_here r x g args callee o h found is =
      called_is p x.function g args x.state (scene r.state.frame.items r.state.memory) callee o (found ∙ ap (λ (q : Program). slice_get q.functions g) h.program) h.state.frame h.state.memory
      (is ∙ ap (λ (q : Program). option_and_then (as_parameters q callee.params) (eval_all (types_of q) args (scene r.state.frame.items r.state.memory))) h.program)

  -- the caller waits, and the callee begins with the globals alone
  pub at_entered : (r s : Run) (k : Caller) (g : ℕ) (x : Point) → IsAt p before r x → s.program ≡ r.program → s.globals ≡ r.globals → s.function ≡ g → left_code s.left.items ≡ code_at (executable r.program.now) g
      → s.callers.items ≡ r.callers.items ++ k ∷ [] → s.trace ≡ r.trace → s.state.frame.items ≡ r.globals.items → s.state.returned ≡ None → s.state.memory ≡ r.state.memory → s.state.unread ≡ r.state.unread
      → k.function ≡ r.function → k.left ≡ r.left → k.frame ≡ r.state.frame → k.returned ≡ r.state.returned
      → IsAt p before s (record x { function = g; rest = code_at (executable p) g; state = fresh (executable p) x.state; callers = waiting k.call k.target.now x.function x.rest x.state ∷ x.callers })
  at_entered r s k g x h pe ge fe body pushed te frame_is none me ue kf kl kv kr =
      let waits : Waiting = record { call = k.call; target = k.target.now; function = x.function; rest = x.rest; frame = x.state.frame; returned = x.state.returned } in
      let rest_is : left_code k.left.items ≡ x.rest = ap (λ (l : Vec Rest). left_code l.items) kl ∙ h.rest in
      let blocks_are : frame_of k.frame.items ≡ x.state.frame = ap (λ (f : Vec (Option ℕ)). frame_of f.items) kv ∙ h.state.frame in
      let half : Waiting = record { call = k.call; target = k.target.now; function = x.function; rest = x.rest; frame = frame_of k.frame.items; returned = k.returned } in
      let first : waiting_of k ≡ half = ap₂ (λ (f : ℕ) (c : Code). record half { function = f; rest = c }) (kf ∙ h.function) rest_is in
      let second : half ≡ waits = ap₂ (λ (f : ℕ → Option ℕ) (v : Option Value). record half { frame = f; returned = v }) blocks_are (kr ∙ h.state.returned) in
      record {
        program = ap (λ (q : Bor Program). q.now) pe ∙ h.program;
        globals = ap (λ (q : Vec (Option ℕ)). frame_of q.items) ge ∙ h.globals;
        function = fe;
        rest = body ∙ ap (λ (q : Program). code_at (executable q) g) h.program;
        state = record { frame = ap frame_of frame_is ∙ h.globals; returned = none; memory = me ∙ h.state.memory; unread = ap (λ (q : Bor (List ℕ)). q.now) ue ∙ h.state.unread };
        callers =
            ap (λ (l : List Caller). callers_before l []) pushed
            ∙ callers-push r.callers.items k []
            ∙ ap₂ (λ (w : Waiting) (ws : List Waiting). w ∷ ws) (first ∙ second) h.callers;
        trace = subst (λ (q : Told). IsTold before q x.trace) (sym te) h.trace;
      }

  -- ---- acts that go on with what comes after them

  -- what an act makes where expressions are evaluated is what it makes at the point
  pub plain_made : (r : Run) (x : Point) (sc : Scene) (t : Option CType) (u : List ℕ) (z : Option Act) (a : Act) → IsAt p before r x → sc.program.now ≡ r.program.now → sc.frame.now ≡ r.state.frame.items → sc.memory.now ≡ r.state.memory
      → option_map shape_of t ≡ result_at (executable r.program.now) r.function → u ≡ r.state.unread.now → z ≡ Some a → made_by (types_for sc.program.now t) u (state_in sc) z ≡ made (types_in (executable p) x.function) a x.state
  plain_made r x sc t u z a h ep ef em te ue ze =
      ap (made_by (types_for sc.program.now t) u (state_in sc)) ze
      ∙ ap₂ (λ (q : Program) (o : Option ExprType). made_from (record { typing = typing_of q; result = o }) u a (state_in sc)) (ep ∙ h.program)
      (te ∙ ap₂ (λ (q : Program) (f : ℕ). result_at (executable q) f) h.program h.function)
      ∙ made_at (types_in (executable p) x.function) a x.state (frame_of sc.frame.now) sc.memory.now None [] u [] (scene_frame r x sc h ef) (scene_memory r x sc h em) (ue ∙ h.state.unread)

  pub plain_done : (r : Run) (x : Point) (i : ℕ) (a : Act) (k : Code) (mk : Making) (q : Option Made) → x.rest ≡ Plain i a k → q ≡ made (types_in (executable p) x.function) a x.state → Some (made_in mk) ≡ option_map seen q
      → ((m : Made) → made_in mk ≡ seen m → IsAt p before r (record x { rest = k; state = after i m x.state; trace = told i m x.trace })) → Acted p before None r x
  plain_done r x i a k mk q e qe is go =
      let s = made_some mk q is in
      acted_done p before x (Plain i a k) i (λ m. k) (made (types_in (executable p) x.function) a x.state) s.0 r e refl (sym qe ∙ s.1.0) (go s.0 s.1.1)

  pub plain_not : (r : Run) (x : Point) (i : ℕ) (a : Act) (k : Code) (q : Option Made) → x.rest ≡ Plain i a k → q ≡ made (types_in (executable p) x.function) a x.state → None ≡ option_map seen q → IsHeard p before r x.trace → Acted p before (Some i) r x
  plain_not r x i a k q e qe is heard =
      acted_not p before x (Plain i a k) i (λ m. k) (made (types_in (executable p) x.function) a x.state) r e refl (sym qe ∙ made_none q is) heard

  -- ---- results of calls

  -- what a target makes of a value where expressions are evaluated is what it makes at the point
  pub given_here : (r : Run) (x : Point) (sc : Scene) (to : Target) (v : Value) → IsAt p before r x → sc.program.now ≡ r.program.now → sc.frame.now ≡ r.state.frame.items → sc.memory.now ≡ r.state.memory
      → given (scenes.types_in sc) to v (state_in sc) ≡ given (types_in (executable p) x.function) to v x.state
  given_here r x sc to v h ep ef em =
      ap (λ (q : Program). given (types_of q) to v (state_in sc)) (ep ∙ h.program)
      ∙ given_at (types_of p) to v x.state (state_in sc) (scene_frame r x sc h ef) (scene_memory r x sc h em)
      ∙ given_typed p (result_at (executable p) x.function) to v x.state

  pub stored_so : (r : Run) (x : Point) (i : ℕ) (mk : Making) (q w : Option Made) → w ≡ q → Some (made_in mk) ≡ option_map seen q
      → ((m : Made) → made_in mk ≡ seen m → IsAt p before r (record x { state = after i m x.state; trace = told i m x.trace })) → Stored p before i w None r x
  stored_so r x i mk q w e is go =
      let s = made_some mk q is in
      subst (λ (o : Option Made). Stored p before i o None r x) (sym (e ∙ s.1.0)) (go s.0 s.1.1)

  pub stored_not : (r : Run) (x : Point) (i : ℕ) (q w : Option Made) → w ≡ q → None ≡ option_map seen q → IsHeard p before r x.trace → Stored p before i w (Some (turn.Undefined i)) r x
  stored_not r x i q w e is heard =
      subst (λ (o : Option Made). Stored p before i o (Some (turn.Undefined i)) r x) (sym (e ∙ made_none q is)) (refl, heard)

  -- a callee that returned nothing gives its target nothing
  pub stored_nothing : (r : Run) (x : Point) (i : ℕ) (to : Target) (v : Option Value) → v ≡ None → IsHeard p before r x.trace → Stored p before i (received (types_in (executable p) x.function) to v x.state) (Some (turn.Undefined i)) r x
  stored_nothing r x i to v e heard =
      subst (λ (o : Option Value). Stored p before i (received (types_in (executable p) x.function) to o x.state) (Some (turn.Undefined i)) r x) (sym e) (refl, heard)

  pub received_none : (r : Run) (x : Point) (i : ℕ) (to : Target) (v : Option Value) → to ≡ target.None → IsAt p before r x → Received p before i to v None r x
  received_none r x i to v e h = subst (λ (t : Target). Received p before i t v None r x) (sym e) (refl, h)

  pub received_place : (o : Option Turn) (r : Run) (x : Point) (i : ℕ) (to : Target) (a : Expr) (v : Option Value) → to ≡ target.Place a → Stored p before i (received (types_in (executable p) x.function) to v x.state) o r x → Received p before i to v o r x
  received_place o r x i to a v e h =
      let there : Received p before i (target.Place a) v o r x = subst (λ (t : Target). Stored p before i (received (types_in (executable p) x.function) t v x.state) o r x) e h in
      subst (λ (t : Target). Received p before i t v o r x) (sym e) there

  pub received_declared : (o : Option Turn) (r : Run) (x : Point) (i : ℕ) (to : Target) (y : ℕ) (v : Option Value) → to ≡ target.Declared y → Stored p before i (received (types_in (executable p) x.function) to v x.state) o r x → Received p before i to v o r x
  received_declared o r x i to y v e h =
      let there : Received p before i (target.Declared y) v o r x = subst (λ (t : Target). Stored p before i (received (types_in (executable p) x.function) t v x.state) o r x) e h in
      subst (λ (t : Target). Received p before i t v o r x) (sym e) there

-- ---- the start

begun-returned : (e : Executable) (gs : List Global) (s : State) → (all_begun e gs s).returned ≡ s.returned
begun-returned e [] s = refl
begun-returned e (g ∷ gs) s = begun-returned e gs (global_begun e g s)

-- a run that is about to begin
pub at_start : (p : Program) (watched : Option (List Bool)) (input : List ℕ) (r : Run) → r.program.now ≡ p → frame_of r.globals.items ≡ (opening (executable p) []).frame → r.function ≡ (executable p).main
    → left_code r.left.items ≡ code_at (executable p) r.function → frame_of r.state.frame.items ≡ (opening (executable p) input).frame → r.state.returned ≡ None → r.state.memory ≡ (opening (executable p) input).memory
    → r.state.unread.now ≡ input → r.callers.items ≡ [] → option_copied r.trace.watched ≡ watched → r.trace.events.items ≡ [] → r.trace.output.items ≡ [] → IsAt p (nothing_before watched) r (beginning (executable p) input)
at_start p watched input r program globals function left frame returned memory unread callers ww es os =
    record {
      program = program;
      globals = globals;
      function = function;
      rest = left ∙ ap (code_at (executable p)) function;
      state = record { frame = frame; returned = returned ∙ sym (begun-returned (executable p) (executable p).globals (blank (executable p))); memory = memory; unread = unread };
      callers = ap (λ (cs : List Caller). callers_before cs []) callers;
      trace = record { watched_is = ww; events = es; output = os };
    }
