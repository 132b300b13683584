-- What a state of a run holds is typed, and leads where the analysis says; and so is what functions have returned.
use Rattle.std.proofs.Common.{◌≡◌, ℕ, ◌<◌, List, [], ◌∷◌, length, Option, Some, None, true, inl, inr, refl, sym, ap, ◌∙◌, subst}
use Rattle.std.specs.Prelude.{option_map, slice_get}
use Rattle.std.specs.Option.{option_or, option_map_or}
use Rattle.std.proofs.lemmas.Bool.{false≢true, and_parts, or_left, or_right}
use Rattle.std.proofs.lemmas.Option.{slice_get-map}
use Rattle.c_language.proofs.Options.{none_there, map_there, then_there}
use Rattle.c_tree.specs.declared.expr.Expr.{Expr}
use Rattle.c_tree.specs.declared.program.Function.{Function}
use Rattle.c_tree.specs.declared.program.Program.{Program}
use Rattle.c_tree.specs.declared.statement.Target.{Target}
use Rattle.c_tree.specs.declared.statement.Target.TheVariants as target
use Rattle.c_tree.specs.declared.types.CType.{CType}
use Rattle.c_language.specs.Code.{Code, Opens}
use Rattle.c_language.specs.ExprRules.{holds_of}
use Rattle.c_language.specs.Programs.{IsWellFormed}
use Rattle.c_language.specs.ExprTypes.{a_value}
use Rattle.c_language.specs.TreeTypes.{shape_of}
use Rattle.c_language.specs.declared.expr_type.ExprType.{ExprType}
use Rattle.c_meaning.specs.declared.value.Value.{Value}
use Rattle.c_meaning.specs.Values.{State, variable_closed, all_closed}
use Rattle.c_meaning.specs.Acts.{Made, given, after}
use Rattle.c_meaning.specs.Activations.{Executable, executable, types_in, result_at, variables_at, fresh, received}
use Rattle.c_meaning.specs.Meaning.{Trace}
use Rattle.c_meaning.specs.Steps.{Reaches, Waiting, Point, machine, beginning}
use Rattle.dep_model.specs.Denoted.{TargetsOf}
use Rattle.dep_model.specs.Doings.{Doing, Does, Calls, doings_of}
use Rattle.dep_model.specs.DoingEffects.{target_takes, any_takes, target_places, result_of}
use Rattle.dep_model.specs.LocationLists.{AreStructsInOrder}
use Rattle.dep_model.specs.MayPoint.{pointing, parameters, passed, IsPointsTo}
use Rattle.dep_model.proofs.Membership.{IsIn}
use Rattle.dep_model.proofs.StructOrder.{well_formed_in_order}
use Rattle.run_facts.specs.Effects.{back_in}
use Rattle.run_facts.specs.StepKinds.{Change, Opened, Closed, changed, change_first, MovesOn, DoesAct, BeginsCall, moved_to, acted_to, called_to}
use Rattle.run_facts.specs.TypedStates.{IsValue, IsTypedState, IsResult}
use Rattle.run_facts.proofs.CodeDoings.{each_next}
use Rattle.run_facts.proofs.ExprsDenoted.{AreShapes}
use Rattle.run_facts.proofs.LaterStates.{IsLater, later_on, value_later, result_later}
use Rattle.run_facts.proofs.OpenedVariables.{opened_below}
use Rattle.run_facts.proofs.Points.{AreWaiting, IsSound, sound_run, placed_resumed}
use Rattle.run_facts.proofs.Statements.{bodies}
use Rattle.run_facts.proofs.StepKinds.{IsKept, kept_run}
use Rattle.run_facts.proofs.TypedActs.{act_fit, given_fit}
use Rattle.run_facts.proofs.TypedCalls.{value_as_value, called_typed}
use Rattle.run_facts.proofs.TypedGlobals.{opening_typed, opening_silent}
use Rattle.run_facts.proofs.TypedParts.{stands_in, result_is, doing_taken, doing_heap, doing_fit, doing_pairs}
use Rattle.run_facts.proofs.TypedStores.{IsFitMade, act_later, act_typed, opened_typed, opened_later, closed_typed, closed_later, recast_typed, recast_later}
use Rattle.typed_programs.specs.TreeOperands.{Declarations, declarations, signature_of}
use Rattle.typed_programs.specs.TypedStatements.{IsTyped}
use Rattle.typed_programs.specs.TypedStatements as fits
use Rattle.typed_programs.proofs.TreeTypes.{type_is}
use Rattle.typed_programs.proofs.TypedPrograms.{programs_typed}
use Rattle.typed_programs.proofs.TypedUses.{holds_there}

closed_returned : (xs : List ℕ) (s : State) → (all_closed xs s).returned ≡ s.returned
closed_returned [] s = refl
closed_returned (x ∷ xs) s = closed_returned xs (variable_closed x s)

-- what one of two values is, the first where it is there
either_there : {P : Value → Type 0} (o q : Option Value) → ((v : Value) → o ≡ Some v → P v) → ((v : Value) → q ≡ Some v → P v) → (v : Value) → option_or o q ≡ Some v → P v
either_there (Some u) q first second v e = first v e
either_there None q first second v e = second v e

module _ (p : Program) (points : TargetsOf) where
  abbrev e : Executable
  e = executable p

  abbrev d : Declarations
  d = declarations p

  -- what a function has returned is of its result's type, and leads to where its result may point
  abbrev pub HasResult : State → ℕ → Option Value → Type 0
  HasResult s f o = IsResult p points s f (result_at e f) o

  abbrev pub HaveResults : State → List Waiting → Type 0
  HaveResults s [] = Unit {0}
  HaveResults s (w ∷ ws) = HasResult s w.function w.returned × HaveResults s ws

  -- a point of a run
  pub record IsTypedPoint (x : Point) : Type 0 where
    pub state : IsTypedState p points x.state
    pub returned : HasResult x.state x.function x.state.returned
    pub callers : HaveResults x.state x.callers

  -- the acts and calls of a function
  abbrev pub Own : ℕ → Doing → Type 0
  Own f a = IsIn (doings_of p f) a

  -- what is known of a point besides: what is done there is of the function, and a variable that begins is one of the program's
  pub record IsKnown (x : Point) : Type 0 where
    pub sound : IsSound e Own x
    pub opens : (v : ℕ) (r : Code) → x.rest ≡ Opens v r → v < length p.vars

  pub known_run : IsTyped p → (input : List ℕ) (x : Point) → Reaches (machine e) (beginning e input) x → IsKnown x
  known_run typed input x r = record { sound = sound_run e Own (bodies p) input x r; opens = opened_below p typed input x r }

  result_same : (s t : State) → IsLater s t → (f : ℕ) (o : Option Value) → HasResult s f o → HasResult t f o
  result_same s t more f o h = result_later s t more p points f (result_at e f) o h

  results_later : (s t : State) → IsLater s t → (ws : List Waiting) → HaveResults s ws → HaveResults t ws
  results_later s t more [] h = tt
  results_later s t more (w ∷ ws) h = (result_same s t more w.function w.returned h.0, results_later s t more ws h.1)

  -- the function that is called, and what the rules say of its call
  pub record CallsFunction (to : Target) (g : ℕ) (args : List Expr) : Type 0 where
    pub function : Function
    pub function_is : slice_get p.functions g ≡ Some function
    pub passes : fits.passed d function.params args ≡ true
    pub gives : fits.gives d to function.result ≡ true

  pub called_function : (to : Target) (g : ℕ) (args : List Expr) → holds_of (fits.calls d to args) (slice_get d.functions g) ≡ true → CallsFunction to g args
  called_function to g args h =
      let k = holds_there (fits.calls d to args) (slice_get d.functions g) h in
      let m = map_there signature_of (slice_get p.functions g) k.0 (sym (slice_get-map signature_of p.functions g) ∙ k.1) in
      let fit : fits.calls d to args (signature_of m.value) ≡ true = ap (fits.calls d to args) m.same ∙ k.2 in
      let both = and_parts (fits.passed d m.value.params args) (fits.gives d to m.value.result) fit in
      record { function = m.value; function_is = m.there; passes = both.0; gives = both.1 }

  module _ (order : AreStructsInOrder p) (shapes : AreShapes p) (typed : IsTyped p) (exact : IsPointsTo p points) where
    -- ---- moves

    -- a variable that begins, and those that go
    change_typed : (c : Change) (x : Point) (r : Code) → x.rest ≡ change_first c r → IsKnown x → IsTypedPoint x → IsTypedState p points (changed c (types_in e x.function) x.state)
    change_typed (Opened v) x r is known h = opened_typed p points (types_in e x.function) v x.state (record { below = known.opens v r is; shape_is = refl }) h.state
    change_typed (Closed vs) x r is known h = closed_typed p points vs x.state h.state

    change_later : (c : Change) (x : Point) → IsTypedPoint x → IsLater x.state (changed c (types_in e x.function) x.state)
    change_later (Opened v) x h = opened_later p points (types_in e x.function) v x.state h.state
    change_later (Closed vs) x h = closed_later vs x.state

    change_returned : (c : Change) (x : Point) → (changed c (types_in e x.function) x.state).returned ≡ x.state.returned
    change_returned (Opened v) x = refl
    change_returned (Closed vs) x = closed_returned vs x.state

    move_kept : (x : Point) (k : MovesOn e x) → IsKnown x → IsTypedPoint x → IsTypedPoint (moved_to e x k)
    move_kept x k known h =
        let t = changed k.change (types_in e x.function) x.state in
        let more = change_later k.change x h in
        record {
          state = change_typed k.change x k.rest k.rest_is known h;
          returned = subst (HasResult t x.function) (sym (change_returned k.change x)) (result_same x.state t more x.function x.state.returned h.returned);
          callers = results_later x.state t more x.callers h.callers;
        }

    -- ---- acts

    -- what an act may return
    abbrev MayReturn : ℕ → State → Value → Type 0
    MayReturn f s v = (t : ExprType) × ((result_at e f ≡ Some t) × IsValue p s t (points (result_of f)) v)

    act_kept : (x : Point) (k : DoesAct e x) → IsKnown x → IsTypedPoint x → IsTypedPoint (acted_to e x k)
    act_kept x k known h =
        let f = x.function in
        let s = x.state in
        let t = after k.statement k.value s in
        let next = each_next (Own f) x.rest _ k.next_is known.sound.inside in
        let a = Does k.statement k.act in
        let g = stands_in p f a next.0 in
        let result = result_is p f g.function g.function_is in
        let fit = act_fit p order shapes points s h.state (result_at e f) (MayReturn f s) f k.statement g.function.result result (λ v u is value. (u, (result ∙ is, value))) k.act (λ z i. doing_pairs p points exact f a next.0 z i) (λ z r. doing_taken p f a g z r) (λ z i. doing_heap p f a g z i) (doing_fit p typed f a g) k.value k.made_is in
        let more = act_later p points order (MayReturn f s) k.statement s k.value fit h.state in
        record {
          state = act_typed p points order (MayReturn f s) k.statement s k.value fit h.state;
          returned = result_same s t more f (option_or k.value.returned s.returned) (either_there k.value.returned s.returned fit.returns h.returned);
          callers = results_later s t more x.callers h.callers;
        }

    -- ---- calls

    call_kept : (x : Point) (k : BeginsCall e x) → IsKnown x → IsTypedPoint x → IsTypedPoint (called_to e x k)
    call_kept x k known h =
        let f = x.function in
        let s = x.state in
        let next = each_next (Own f) x.rest _ k.next_is known.sound.inside in
        let a = Calls k.statement k.target k.function k.args in
        let g = stands_in p f a next.0 in
        let c = called_function k.target k.function k.args (doing_fit p typed f a g) in
        let params : parameters p k.function ≡ c.function.params = ap (λ (o : Option Function). option_map_or (λ (z : Function). z.params) o []) c.function_is in
        let passed_ = called_typed p order shapes points s h.state (result_at e f) f k.function c.function k.args k.begun refl c.function_is known.sound.globals (λ z i. doing_pairs p points exact f a next.0 z (inr (subst (λ xs. IsIn (passed p points xs k.args) z) (sym params) i))) (λ z r. doing_taken p f a g z (or_right (target_takes p k.target z) (any_takes p k.args z) r)) c.passes k.called_is in
        let more = later_on s (fresh e s) k.begun (recast_later s (fresh e s).frame None s.unread) passed_.later in
        record {
          state = passed_.typed_so;
          returned = λ v r. none_there (sym passed_.silent ∙ r);
          callers = (result_same s k.begun more f s.returned h.returned, results_later s k.begun more x.callers h.callers);
        }

    -- ---- returns

    module _ (x : Point) (w : Waiting) (ws : List Waiting) (are : x.callers ≡ w ∷ ws) (known : IsKnown x) (h : IsTypedPoint x) where
      abbrev back : State
      back = back_in e x.function w x.state

      abbrev closed : State
      closed = all_closed (variables_at e x.function) x.state

      waits : AreWaiting e Own x.state.origins x.function (w ∷ ws)
      waits = subst (AreWaiting e Own x.state.origins x.function) are known.sound.callers

      results : HaveResults x.state (w ∷ ws)
      results = subst (HaveResults x.state) are h.callers

      back_later : IsLater x.state back
      back_later =
          later_on x.state closed back (closed_later (variables_at e x.function) x.state) (recast_later closed w.frame w.returned closed.unread)

      pub back_typed : IsTypedState p points back
      back_typed =
          recast_typed closed w.frame w.returned closed.unread p points (closed_typed p points (variables_at e x.function) x.state h.state)
          (placed_resumed e x.function w x.state known.sound.placed waits.0.named).named

      -- a caller goes on in its state
      back_kept : IsTypedPoint (record { function = w.function; rest = w.rest; state = back; callers = ws; trace = x.trace })
      back_kept = record {
        state = back_typed;
        returned = result_same x.state back back_later w.function w.returned results.0;
        callers = results_later x.state back back_later ws results.1;
      }

      -- what its target gets
      module _ (m : Made) (received_is : received (types_in e w.function) w.target x.state.returned back ≡ Some m) where
        abbrev Never : Value → Type 0
        Never v = ⊥

        stored_fit : IsFitMade p points w.call back Never m
        stored_fit =
            let call = Calls w.call w.target x.function waits.0.args in
            let g = stands_in p w.function call waits.0.calls in
            let c = called_function w.target x.function waits.0.args (doing_fit p typed w.function call g) in
            let v = then_there (λ (u : Value). given (types_in e w.function) w.target u back) x.state.returned m received_is in
            let r = h.returned v.value v.there in
            let declared : option_map shape_of c.function.result ≡ Some r.0 = sym (result_is p x.function c.function c.function_is) ∙ r.1.0 in
            let z = map_there shape_of c.function.result r.0 declared in
            let value = value_as_value p back r.0 (points (result_of x.function)) v.value (value_later x.state back back_later p r.0 (points (result_of x.function)) v.value r.1.1) in
            given_fit p order shapes points back back_typed (result_at e w.function) Never w.call w.target (points (result_of x.function)) (doing_pairs p points exact w.function call waits.0.calls (pointing (target_places p points w.target) (points (result_of x.function))) (inl refl)) (a_value r.0) v.value value (λ none. absurd (false≢true none)) (given_type w.target c.function.result z.value r.0 z.there z.same c.gives) (λ y taken. doing_taken p w.function call g y (or_left (target_takes p w.target y) (any_takes p waits.0.args y) taken)) m v.same
          where
            given_type : (to : Target) (o : Option CType) (z : CType) (t : ExprType) → o ≡ Some z → shape_of z ≡ t → fits.gives d to o ≡ true → fits.stores d to (a_value t) ≡ true
            given_type target.None o z t is same k = refl
            given_type (target.Place l) o z t is same k =
                subst (λ (u : ExprType). fits.stores d (target.Place l) (a_value u) ≡ true) same (subst (λ (q : Option CType). fits.gives d (target.Place l) q ≡ true) is k)
            given_type (target.Declared y) o z t is same k =
                subst (λ (u : ExprType). fits.stores d (target.Declared y) (a_value u) ≡ true) same (subst (λ (q : Option CType). fits.gives d (target.Declared y) q ≡ true) is k)

        abbrev stored : State
        stored = after w.call m back

        stored_later : IsLater back stored
        stored_later = act_later p points order Never w.call back m stored_fit back_typed

        stored_kept : (t : Trace) → IsTypedPoint (record { function = w.function; rest = w.rest; state = stored; callers = ws; trace = t })
        stored_kept t = record {
          state = act_typed p points order Never w.call back m stored_fit back_typed;
          returned = result_same back stored stored_later w.function (option_or m.returned w.returned) (either_there m.returned w.returned (λ v r. absurd (stored_fit.returns v r)) back_kept.returned);
          callers = results_later back stored stored_later ws back_kept.callers;
        }

    -- ---- runs

    pub typed_kept : IsKept e IsKnown IsTypedPoint
    typed_kept = record {
      moves = move_kept;
      acts = act_kept;
      begins = call_kept;
      returns = λ x k known h. back_kept x k.caller k.others k.callers_are known h;
      stores_result = λ x k known h. stored_kept x k.caller k.others k.callers_are known h k.value k.received_is _;
    }

    pub typed_on : (input : List ℕ) (x : Point) → Reaches (machine e) (beginning e input) x → IsTypedPoint x
    typed_on input x r =
        kept_run e IsKnown IsTypedPoint typed_kept (beginning e input) (known_run typed input) x r
        (record {
          state = opening_typed p order shapes points exact typed input;
          returned = λ v is. none_there (sym (opening_silent p order shapes points exact typed input) ∙ is);
          callers = tt;
        })

-- wherever a run of a well-formed program comes
pub typed_run : (p : Program) (points : TargetsOf) → IsWellFormed p → IsPointsTo p points → (input : List ℕ) (x : Point) → Reaches (machine (executable p)) (beginning (executable p) input) x → IsTypedPoint p points x
typed_run p points ok exact = typed_on p points (well_formed_in_order p ok) (type_is p) (programs_typed p ok) exact
