-- A global has one block in a run, which every activation names.
use Rattle.std.proofs.Common.{◌≡◌, ℕ, suc, ◌==◌, List, [], ◌∷◌, ◌++◌, length, map, Option, Some, None, Bool, true, false, inl, inr, refl, sym, ap, ◌∙◌, subst, eq-eqb, eqb-true}
use Rattle.std.specs.Prelude.{slice_get, if◌then◌else◌}
use Rattle.std.specs.Option.{option_map_or}
use Rattle.std.proofs.lemmas.Bool.{false≢true}
use Rattle.std.proofs.lemmas.Option.{same_Some}
use Rattle.c_language.proofs.Options.{none_there, then_there}
use Rattle.c_tree.specs.declared.expr.Expr.{Expr}
use Rattle.c_tree.specs.declared.program.Program.{Program}
use Rattle.c_language.specs.Code.{Code, End, Opens, Plain, Fork, Loop, Leaves, Call, ◌⨟◌, is_true, either}
use Rattle.c_meaning.specs.declared.value.Value.{Value}
use Rattle.c_meaning.specs.Values.{Types, Origin, OfVariable, OfStatement, State, bound, variable_closed, all_closed, as_type, eval_all}
use Rattle.c_meaning.specs.Acts.{Request, origins_after, begun_with, picked}
use Rattle.c_meaning.specs.Activations.{Global, Routine, Executable, executable, types_in, outside, stores_of, blank, global_opened, global_begun, all_begun, opening, parameter_begun, passed, fresh, passed_to, called, variables_at}
use Rattle.c_meaning.specs.Steps.{Reaches, Waiting, Point, machine, beginning}
use Rattle.c_meaning.proofs.Origins.{IsTracked, both_longer, blocks_stored}
use Rattle.dep_model.specs.DoingEffects.{is_global}
use Rattle.dep_model.specs.MayPoint.{parameters}
use Rattle.dep_model.proofs.Membership.{IsIn, contains_of_in}
use Rattle.simulation_places.proofs.RunRests.{HoldsAfter, holds_run}
use Rattle.run_facts.specs.Effects.{back_in}
use Rattle.run_facts.specs.NextSteps.{Next, next_of}
use Rattle.run_facts.specs.StepKinds.{Change, Opened, Closed, changed, change_first, DoesAct, ReturnsStoring, acted_to, returned_storing}
use Rattle.run_facts.proofs.StepKinds.{IsKept, kept_run}
use Rattle.run_facts.proofs.Statements.{parameters_are}
use Rattle.simulation_steps.specs.OwnGlobals.{BeginsNone, globals_of, HasOwnGlobals}
use Rattle.simulation_steps.proofs.GrownLists.{front, last, front_or_last}
use Rattle.simulation_steps.proofs.WholeBlocks.{new_or_old}

-- ---- what is left to do begins no global

module _ (these : ℕ → Bool) where
  begins_seq : (c r : Code) → BeginsNone these c → BeginsNone these r → BeginsNone these (c ⨟ r)
  begins_seq End r h k = k
  begins_seq (Opens x c) r h k = (h.0, begins_seq c r h.1 k)
  begins_seq (Plain i a c) r h k = begins_seq c r h k
  begins_seq (Fork i e c d) r h k = (h.0, begins_seq d r h.1 k)
  begins_seq (Loop i e b d) r h k = (h.0, begins_seq d r h.1 k)
  begins_seq (Leaves xs c) r h k = begins_seq c r h k
  begins_seq (Call i to g args c) r h k = begins_seq c r h k

  begins_either : (t : Bool) (c d : Code) → BeginsNone these c → BeginsNone these d → BeginsNone these (either t c d)
  begins_either true c d h k = h
  begins_either false c d h k = k

  begins_next : (f : ℕ) (c : Code) → BeginsNone these c → HoldsAfter (λ g d. BeginsNone these d) f (next_of c)
  begins_next f End h = tt
  begins_next f (Opens x r) h = h.1
  begins_next f (Plain i a r) h = λ v. h
  begins_next f (Fork i e c r) h = λ v. begins_seq (c (picked v)) r (h.0 (picked v)) h.1
  begins_next f (Loop i e b r) h = λ v. begins_either (is_true (picked v)) (b ⨟ Loop i e b r) r (begins_seq b (Loop i e b r) h.0 h) h.1
  begins_next f (Leaves xs r) h = h
  begins_next f (Call i to g args r) h = h

  begins_after : (f : ℕ) (c : Code) (n : Next) → next_of c ≡ n → BeginsNone these c → HoldsAfter (λ g d. BeginsNone these d) f n
  begins_after f c n e h = subst (HoldsAfter (λ g d. BeginsNone these d) f) e (begins_next f c h)

-- ---- where a run begins

abbrev AreOnce : List ℕ → Type 0
AreOnce [] = Unit {0}
AreOnce (x ∷ xs) = (IsIn xs x → ⊥) × AreOnce xs

get_of_in : (xs : List ℕ) (x : ℕ) → IsIn xs x → (k : ℕ) × (slice_get xs k ≡ Some x)
get_of_in [] x j = absurd j
get_of_in (y ∷ xs) x (inl e) = (0, ap Some e)
get_of_in (y ∷ xs) x (inr j) = let n = get_of_in xs x j in (suc n.0, n.1)

are_once : (xs : List ℕ) → ((i j x : ℕ) → slice_get xs i ≡ Some x → slice_get xs j ≡ Some x → i ≡ j) → AreOnce xs
are_once [] h = tt
are_once (x ∷ xs) h =
    ((λ i. let k = get_of_in xs x i in let e : 0 ≡ suc k.0 = h 0 (suc k.0) x refl k.1 in cc), are_once xs (λ i j y p q. let e : suc i ≡ suc j = h (suc i) (suc j) y p q in cc))

abbrev variables : List Global → List ℕ
variables gs = map (λ (g : Global). g.variable) gs

-- each block was made by a variable that names it, and that isn't still to begin
abbrev AllNamed : List ℕ → State → Type 0
AllNamed xs s = (b y : ℕ) → slice_get s.origins b ≡ Some (OfVariable y) → (IsIn xs y → ⊥) × (s.frame y ≡ Some b)

variable_same : (x y : ℕ) → OfVariable x ≡ OfVariable y → x ≡ y
variable_same x y e = cc

no_site : (x i : ℕ) → OfVariable x ≡ OfStatement i → ⊥
no_site x i e = absurd cc

module _ (p : Executable) where
  bound_one : (x b : ℕ) (s : State) (o : Option ℕ) → (x == x) ≡ true → bound s.frame x o x ≡ o
  bound_one x b s o e = rw e refl

  begun_named : (g : Global) (xs : List ℕ) (s : State) → IsTracked s → (IsIn xs g.variable → ⊥) → AllNamed (g.variable ∷ xs) s → AllNamed xs (global_begun p g s)
  begun_named g xs s tracked apart h b y e =
      elim (front_or_last s.origins (OfVariable g.variable) b (OfVariable y) e) [
        | front old ↦ (let k = h b y old in ((λ i. k.0 (inr i)), other (g.variable == y) refl k.0 k.1))
        | last at is ↦ (let same = variable_same g.variable y is in ((λ i. apart (subst (IsIn xs) (sym same) i)), subst (λ z. bound s.frame g.variable (Some (length s.memory.blocks)) z ≡ Some b) same (bound_one g.variable b s (Some (length s.memory.blocks)) (eq-eqb g.variable g.variable refl) ∙ ap Some (sym tracked ∙ sym at))))
      ]
    where
      other : (same : Bool) → (g.variable == y) ≡ same → (IsIn (g.variable ∷ xs) y → ⊥) → s.frame y ≡ Some b → (if g.variable == y then Some (length s.memory.blocks) else s.frame y) ≡ Some b
      other true is none k = absurd (none (inl (eqb-true g.variable y is)))
      other false is none k = rw is k

  all_named : (gs : List Global) (s : State) → IsTracked s → AreOnce (variables gs) → AllNamed (variables gs) s → AllNamed [] (all_begun p gs s)
  all_named [] s tracked once h = h
  all_named (g ∷ gs) s tracked once h =
      let opened = global_opened p g.variable s in
      let stores = stores_of (begun_with (outside p) g.variable g.init opened) in
      all_named gs (global_begun p g s) (both_longer s.origins s.memory.blocks _ _ tracked ∙ sym (blocks_stored stores opened.memory)) once.1 (begun_named g (variables gs) s tracked once.0 h)

module _ (p : Program) (own : HasOwnGlobals p) where
  abbrev e : Executable
  e = executable p

  -- the block of a global is the one that it had when the run began
  pub record OneEach (os : List Origin) : Type 0 where
    pub globals : (b y : ℕ) → slice_get os b ≡ Some (OfVariable y) → is_global p y ≡ true → (opening e []).frame y ≡ Some b

  begun_each : (input : List ℕ) → OneEach (opening e input).origins
  begun_each input = record {
    globals = λ b y is global. (all_named e e.globals (blank e) refl (are_once (globals_of p) own.once) (λ c x q. none_there q) b y is).1;
  }

  -- ---- blocks of other variables, and of malloc

  each_more : (os : List Origin) (x : ℕ) → is_global p x ≡ false → OneEach os → OneEach (os ++ OfVariable x ∷ [])
  each_more os x not_ h = record {
    globals = λ b y is global. elim (new_or_old (OfVariable x) (OfVariable y) os b is) [
      | inl old ↦ h.globals b y old global
      | inr same ↦ absurd (false≢true (sym not_ ∙ (ap (is_global p) (variable_same x y same) ∙ global)))
    ];
  }

  each_begun : (i : ℕ) (o : Option Request) (os : List Origin) → OneEach os → OneEach (origins_after i o os)
  each_begun i None os h = h
  each_begun i (Some r) os h = record {
    globals = λ b y is global. elim (new_or_old (OfStatement i) (OfVariable y) os b is) [ inl old ↦ h.globals b y old global | inr same ↦ absurd (no_site y i (sym same)) ];
  }

  closed_origins : (xs : List ℕ) (s : State) → (all_closed xs s).origins ≡ s.origins
  closed_origins [] s = refl
  closed_origins (x ∷ xs) s = closed_origins xs (variable_closed x s)

  each_closed : (xs : List ℕ) (s : State) → OneEach s.origins → OneEach (all_closed xs s).origins
  each_closed xs s h = subst OneEach (sym (closed_origins xs s)) h

  -- ---- calls

  each_passed : (xs : List ℕ) (vs : List Value) (s c : State) → ((x : ℕ) → IsIn xs x → is_global p x ≡ false) → OneEach s.origins → passed e xs vs s ≡ Some c → OneEach c.origins
  each_passed [] [] s c none h q = subst (λ (t : State). OneEach t.origins) (same_Some s c q) h
  each_passed [] (v ∷ vs) s c none h q = none_there q
  each_passed (x ∷ xs) [] s c none h q = none_there q
  each_passed (x ∷ xs) (v ∷ vs) s c none h q =
      let k = then_there (λ (w : Value). passed e xs vs (parameter_begun e x s w)) (as_type (e.typing.variable x) v) c q in
      each_passed xs vs (parameter_begun e x s k.value) c (λ y i. none y (inr i)) (each_more s.origins x (none x (inl refl)) h) k.same

  parameters_none : (g : ℕ) (r : Routine) → slice_get e.functions g ≡ Some r → (x : ℕ) → IsIn r.params x → is_global p x ≡ false
  parameters_none g r is x i =
      let same : r.params ≡ parameters p g = sym (ap (λ (o : Option Routine). option_map_or (λ (k : Routine). k.params) o []) is) ∙ parameters_are p g in
      own.parameters_not g x (contains_of_in (parameters p g) x (subst (λ xs. IsIn xs x) same i))

  each_called : (f g : ℕ) (args : List Expr) (s c : State) → OneEach s.origins → called e f g args s ≡ Some c → OneEach c.origins
  each_called f g args s c h q =
      let r = then_there (passed_to e f args s) (slice_get e.functions g) c q in
      let vs = then_there (λ (us : List Value). passed e r.value.params us (fresh e s)) (eval_all (types_in e f) args s) c r.same in
      each_passed r.value.params vs.value (fresh e s) c (parameters_none g r.value r.there) h vs.same

  -- ---- steps

  -- what is left to do at each point of a run begins no global
  abbrev Known : Point → Type 0
  Known x = BeginsNone (is_global p) x.rest

  abbrev HoldsThere : Point → Type 0
  HoldsThere x = OneEach x.state.origins

  each_changed : (c : Change) (r : Code) (types : Types) (s : State) → BeginsNone (is_global p) (change_first c r) → OneEach s.origins → OneEach (changed c types s).origins
  each_changed (Opened x) r types s none h = each_more s.origins x none.0 h
  each_changed (Closed xs) r types s none h = each_closed xs s h

  each_act : (x : Point) (k : DoesAct e x) → Known x → HoldsThere x → HoldsThere (acted_to e x k)
  each_act x k known h = each_begun k.statement k.value.begun x.state.origins h

  each_back : (x : Point) (w : Waiting) → HoldsThere x → OneEach (back_in e x.function w x.state).origins
  each_back x w h = each_closed (variables_at e x.function) x.state h

  each_store : (x : Point) (k : ReturnsStoring e x) → Known x → HoldsThere x → HoldsThere (returned_storing e x k)
  each_store x k known h =
      each_begun k.caller.call k.value.begun (back_in e x.function k.caller x.state).origins (each_back x k.caller h)

  each_kept : IsKept e Known HoldsThere
  each_kept = record {
    moves = λ x k known h. each_changed k.change k.rest (types_in e x.function) x.state (subst (BeginsNone (is_global p)) k.rest_is known) h;
    acts = each_act;
    begins = λ x k known h. each_called x.function k.function k.args x.state k.begun h k.called_is;
    returns = λ x k known h. each_back x k.caller h;
    stores_result = each_store;
  }

  known_run : (input : List ℕ) (x : Point) → Reaches (machine e) (beginning e input) x → Known x
  known_run input x r = (holds_run e (λ f c. BeginsNone (is_global p) c) own.bodies_not (begins_after (is_global p)) input x r).rest

  -- at each point of a run
  pub one_each : (input : List ℕ) (x : Point) → Reaches (machine e) (beginning e input) x → OneEach x.state.origins
  one_each input x r = kept_run e Known HoldsThere each_kept (beginning e input) (known_run input) x r (begun_each input)
