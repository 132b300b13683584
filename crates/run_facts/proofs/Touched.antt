-- The steps of a run touch what the vertices of its statements say.
use Rattle.std.proofs.Common.{◌≡◌, ℕ, ◌+◌, zero, suc, List, [], ◌∷◌, ◌++◌, map, length, Option, Some, None, true, inl, inr, refl, sym, ap, ap₂, ◌∙◌, subst, arith, eq-eqb}
use Rattle.std.specs.Prelude.{All, Contains, option_map, slice_get}
use Rattle.std.specs.List.{range_with_len}
use Rattle.std.specs.Option.{option_map_or}
use Rattle.std.proofs.lemmas.Bool.{false≢true, or_left, or_right}
use Rattle.std.proofs.lemmas.List.Elements.{All-nil, All-append, All-map, All-weaker}
use Rattle.c_language.proofs.Options.{some_same, none_there, then_there}
use Rattle.c_tree.specs.declared.expr.Expr.{Expr}
use Rattle.c_tree.specs.declared.program.Program.{Program}
use Rattle.c_tree.specs.declared.statement.Target.{Target}
use Rattle.c_tree.specs.declared.statement.Target.TheVariants as target
use Rattle.c_language.specs.Code.{Act, End}
use Rattle.c_language.specs.TreeTypes.{Typing}
use Rattle.c_meaning.specs.declared.value.Place.{Place}
use Rattle.c_meaning.specs.declared.value.Value.{Value}
use Rattle.c_meaning.specs.Values.{Types, Origin, OfVariable, State, whole, eval_all}
use Rattle.c_meaning.specs.Acts.{Made, Store, given}
use Rattle.c_meaning.specs.Activations.{executable, types_in, result_at, variables_at, fresh, passed_to, called, received}
use Rattle.c_meaning.specs.Meaning.{Trace}
use Rattle.c_meaning.specs.Steps.{Moves, Waiting, Point, stored_back, went_back, step_at}
use Rattle.dep_model.specs.declared.location.Location.{Location}
use Rattle.dep_model.specs.declared.location.Root.TheVariants.{Variable}
use Rattle.dep_model.specs.declared.vertex.Slot.{Slot}
use Rattle.dep_model.specs.declared.vertex.Slot.TheVariants.{Argument, Result}
use Rattle.dep_model.specs.declared.vertex.VertexKind.TheVariants.{FormalIn, Statement, ActualIn, ActualOut}
use Rattle.dep_model.specs.Denoted.{Places, variable, expr_reads}
use Rattle.dep_model.specs.Denoted as denoted
use Rattle.dep_model.specs.Doings.{Doing, Does, Calls, doing_number, program_doings, doings_of}
use Rattle.dep_model.specs.DoingEffects.{the_input, result_of, is_taken, any_takes, target_takes, maybe_reads, target_reads, target_places, target_kills, act_uses, act_defines, act_kills}
use Rattle.dep_model.specs.LocationLists.{AreStructsInOrder}
use Rattle.dep_model.specs.MayPoint.{parameters}
use Rattle.dep_model.specs.SystemGraph.{Analysis}
use Rattle.dep_model.specs.VertexOrder.{arguments_from, touched, slots_of, target_slots, doing_vertices, doing_at, of_parameter, actual_uses, out_uses, out_defines, out_kills, statement_uses, statement_defines, statement_kills}
use Rattle.dep_model.proofs.Membership.{IsIn, contains_of_in, in_first, in_second, in_map}
use Rattle.dep_model.proofs.StructOrder.{well_formed_in_order}
use Rattle.typed_programs.specs.TypedStatements.{IsTyped}
use Rattle.typed_programs.proofs.TreeTypes.{type_is}
use Rattle.typed_programs.proofs.TypedPrograms.{programs_typed}
use Rattle.run_facts.specs.CellLocations.{location_in, location_of}
use Rattle.run_facts.specs.DenotedCells.{IsReadOf}
use Rattle.run_facts.specs.Effects.{Touch, Effect, holding, storing, act_effect, passed_into, store_effect, no_effect, parameters_at, argument_reads, arguments_read, call_effect, store_received, back_in, receipt_effect}
use Rattle.run_facts.specs.ReadCells.{value_read, target_read, act_read}
use Rattle.run_facts.specs.TypedStates.{IsTypedState}
use Rattle.run_facts.specs.Touching.{IsTouched, IsUsedBy, IsDefinedBy, MayUse, MayDefine, IsPassedBy, MayPass, Overwrites, ArgumentsTouch, DoingTouches, ReceiptTouches}
use Rattle.run_facts.specs.Laws.{DoingsTouch, ReceiptsTouch, StepsTouchWhatVerticesSay}
use Rattle.run_facts.proofs.ActCells as cells
use Rattle.run_facts.proofs.ActCells.{given_target, passed_operands, argument_cells, target_touches, reading_touches}
use Rattle.run_facts.proofs.ActKills.{IsKill, killed_global, one_variable, act_kill, target_overwritten, target_variables}
use Rattle.run_facts.proofs.BackStates.{closed_origins, back_typed}
use Rattle.run_facts.proofs.Blocks.{Grows, grows_not, get_grown, ArePassed}
use Rattle.run_facts.proofs.ExprsDenoted.{AreShapes}
use Rattle.run_facts.proofs.Members.{all_from}
use Rattle.run_facts.proofs.Numbers.{at_number}
use Rattle.run_facts.proofs.Points.{AreWaiting, IsSound, called_passed, sound_run}
use Rattle.run_facts.proofs.SeenCells.{seen_outside}
use Rattle.run_facts.proofs.Statements.{bodies, parameters_are, argument_in, next_member, IsActed, Happened, next_happened}
use Rattle.run_facts.proofs.TypedParts.{stands_in, doing_taken, doing_fit}
use Rattle.run_facts.proofs.TypedRuns.{called_function, typed_run}

-- in a list each item that is there has a number
get_of_in : {A : Type 0} (xs : List A) (x : A) → IsIn xs x → (k : ℕ) × (slice_get xs k ≡ Some x)
get_of_in [] x j = absurd j
get_of_in (y ∷ xs) x (inl e) = (0, ap Some e)
get_of_in (y ∷ xs) x (inr j) = let n = get_of_in xs x j in (suc n.0, n.1)

its_location : (x : ℕ) → denoted.whole x (variable x) ≡ true
its_location x = rw (eq-eqb x x refl) refl

-- the cell of a block of one cell that a variable made
location_named : (os : List Origin) (x : ℕ) (q : Place) → slice_get os q.block ≡ Some (OfVariable x) → q.path ≡ [] → location_of os q ≡ Some (variable x)
location_named os x q made path =
    ap (option_map (λ (o : Origin). location_in o q.path)) made ∙ ap (λ hops. Some (location_in (OfVariable x) hops)) path

module _ (p : Program) (a : Analysis) (numbered : map doing_number (program_doings p) ≡ range_with_len 0 p.statements) (order : AreStructsInOrder p) (shapes : AreShapes p) (fit : IsTyped p) where
  abbrev Mine : ℕ → Doing → Type 0
  Mine f d = IsIn (doings_of p f) d

  -- ---- vertices

  statement_use : (f i : ℕ) (act : Act) (l : Location) → Mine f (Does i act) → act_uses p a.points act l ≡ true → MayUse p a f (Does i act) l
  statement_use f i act l mine u = record {
    vertex = Statement i;
    use_is = record {
      of_statement = contains_of_in (Statement i ∷ []) (Statement i) (inl refl);
      used = subst (λ o. statement_uses p a.points o l ≡ true) (sym (at_number p numbered f (Does i act) mine)) u;
    };
  }

  statement_define : (f i : ℕ) (act : Act) (l : Location) → Mine f (Does i act) → act_defines p a.points f act l ≡ true → MayDefine p a f (Does i act) l
  statement_define f i act l mine u = record {
    vertex = Statement i;
    definition_is = record {
      of_statement = contains_of_in (Statement i ∷ []) (Statement i) (inl refl);
      defined = subst (λ o. statement_defines p a.points f o l ≡ true) (sym (at_number p numbered f (Does i act) mine)) u;
    };
  }

  module _ (f i : ℕ) (to : Target) (g : ℕ) (args : List Expr) (mine : Mine f (Calls i to g args)) where
    abbrev ins : List Slot
    ins = arguments_from 0 args ++ slots_of p a.effects (touched p a.effects g)

    abbrev outs : List Slot
    outs = slots_of p a.effects (a.effects.modified g)

    argument_use : (k : ℕ) (arg : Expr) (l : Location) → slice_get args k ≡ Some arg → expr_reads p a.points arg l ≡ true → IsUsedBy p a f (Calls i to g args) (ActualIn i (Argument k)) l
    argument_use k arg l is u =
        let same : 0 + k ≡ k = omega arith in
        let slot = subst (λ n. IsIn (arguments_from 0 args) (Argument n)) same (argument_in 0 args k arg is) in
        let inside = in_map (ActualIn i) ins (Argument k) (in_first (arguments_from 0 args) (slots_of p a.effects (touched p a.effects g)) (Argument k) slot) in
        record {
          of_statement = contains_of_in (doing_vertices p a.effects (Calls i to g args)) (ActualIn i (Argument k)) (inr (in_first (map (ActualIn i) ins) (map (ActualOut i) (outs ++ target_slots p a.effects to)) (ActualIn i (Argument k)) inside));
          used = subst (λ o. actual_uses p a.points f o (Argument k) l ≡ true) (sym (at_number p numbered f (Calls i to g args) mine)) (subst (λ o. maybe_reads p a.points o l ≡ true) (sym is) u);
        }

    result_in : target_slots p a.effects to ≡ Result ∷ [] → Contains (doing_vertices p a.effects (Calls i to g args)) (ActualOut i Result)
    result_in e =
        let slot = subst (λ ts. IsIn ts Result) (sym e) (inl refl) in
        let inside = in_map (ActualOut i) (outs ++ target_slots p a.effects to) Result (in_second outs (target_slots p a.effects to) Result slot) in
        contains_of_in (doing_vertices p a.effects (Calls i to g args)) (ActualOut i Result) (inr (in_second (map (ActualIn i) ins) (map (ActualOut i) (outs ++ target_slots p a.effects to)) (ActualOut i Result) inside))

    result_define : target_slots p a.effects to ≡ Result ∷ [] → (l : Location) → target_places p a.points to l ≡ true → IsDefinedBy p a f (Calls i to g args) (ActualOut i Result) l
    result_define e l u = record {
      of_statement = result_in e;
      defined = subst (λ o. out_defines p a.points f o Result l ≡ true) (sym (at_number p numbered f (Calls i to g args) mine)) u;
    }

    result_use : target_slots p a.effects to ≡ Result ∷ [] → (l : Location) → target_reads p a.points to l ≡ true → IsUsedBy p a f (Calls i to g args) (ActualOut i Result) l
    result_use e l u = record {
      of_statement = result_in e;
      used = subst (λ o. out_uses p a.points o Result l ≡ true) (sym (at_number p numbered f (Calls i to g args) mine)) u;
    }

    result_kills : (l : Location) → out_kills p a.points f (doing_at p f i) Result l ≡ true → target_kills p a.points to l ≡ true
    result_kills l h = subst (λ o. out_kills p a.points f o Result l ≡ true) (at_number p numbered f (Calls i to g args) mine) h

  pass_define : (g k x : ℕ) → slice_get (parameters p g) k ≡ Some x → IsPassedBy p a g k (variable x)
  pass_define g k x is =
      let same : 0 + k ≡ k = omega arith in
      let slot = subst (λ n. IsIn (arguments_from 0 (parameters p g)) (Argument n)) same (argument_in 0 (parameters p g) k x is) in
      record {
        of_function = contains_of_in _ (FormalIn (Argument k)) (in_map FormalIn (arguments_from 0 (parameters p g) ++ slots_of p a.effects (touched p a.effects g)) (Argument k) (in_first (arguments_from 0 (parameters p g)) (slots_of p a.effects (touched p a.effects g)) (Argument k) slot));
        defined = subst (λ o. of_parameter p a.points o (variable x) ≡ true) (sym is) (its_location x);
      }

  -- ---- cells

  -- a cell that is read or stored into, as the step that touches it sees it
  touched_at : (s : State) (os : List Origin) (set : Places) (these : Location → Type 0) (w : Touch) → IsTypedState p a.points s → Grows s.origins os → ((l : Location) → set l ≡ true → these l) → IsReadOf p s set w.cell → IsTouched p a s os these w
  touched_at s os set these w typed more fits r =
      record {
        location = location_in r.origin w.cell.path;
        location_is = ap (option_map (λ (o : Origin). location_in o w.cell.path)) (get_grown s.origins os w.cell.block r.origin more r.origin_is);
        among = fits (location_in r.origin w.cell.path) r.among;
        counts = λ low. elim r.counts [
          | inl seen ↦ inl (seen_outside p r.origin w.cell.path ∙ seen)
          | inr h ↦ let made : OfVariable h.0 ≡ r.origin = some_same (sym (typed.named h.0 w.cell.block h.1) ∙ r.origin_is) in inr (h.0, subst (λ (o : Origin). (location_in o w.cell.path).root ≡ Variable h.0) made refl, h.1)
        ];
      }

  -- cells that are read
  all_touched : (s : State) (os : List Origin) (set : Places) (these : Location → Type 0) (qs : List Place) → IsTypedState p a.points s → Grows s.origins os → ((l : Location) → set l ≡ true → these l) → All (IsReadOf p s set) qs → All (IsTouched p a s os these) (map (holding s.memory) qs)
  all_touched s os set these qs typed more fits h =
      All-map (IsTouched p a s os these) (holding s.memory) qs (All-weaker (IsReadOf p s set) (λ (q : Place). IsTouched p a s os these (holding s.memory q)) (λ q r. touched_at s os set these (holding s.memory q) typed more fits r) qs h)

  -- cells that are stored into
  all_stored : (s : State) (os : List Origin) (set : Places) (these : Location → Type 0) (ws : List Store) → IsTypedState p a.points s → Grows s.origins os → ((l : Location) → set l ≡ true → these l) → ((w : Store) → IsIn ws w → IsReadOf p s set w.place) → All (IsTouched p a s os these) (map storing ws)
  all_stored s os set these ws typed more fits h =
      All-map (IsTouched p a s os these) storing ws (all_from (λ (w : Store). IsTouched p a s os these (storing w)) ws (λ w i. touched_at s os set these (storing w) typed more fits (h w i)))

  -- ---- acts

  act_overwrites : (f i : ℕ) (act : Act) (s : State) (m : Made) (typed : IsTypedState p a.points s) → Mine f (Does i act) → IsKill p a.points s typed (result_at (executable p) f) f act m → Overwrites p a f (Statement i) s (act_effect (types_in (executable p) f) act s m)
  act_overwrites f i act s m typed mine k =
      record {
        cells_are = λ l y root kl. k.cells l y root (killed_too l kl);
        alone = λ l y root kl. killed_global p a.points s typed (result_at (executable p) f) l y root (k.killable l y root (killed_too l kl));
        input_is = λ kl. k.input (killed_too the_input kl);
        result_is = λ kl. k.result_is (killed_too (result_of f) kl);
      }
    where
      killed_too : (l : Location) → statement_kills p a.points f (doing_at p f i) l ≡ true → act_kills p a.points f act l ≡ true
      killed_too l h = subst (λ o. statement_kills p a.points f o l ≡ true) (at_number p numbered f (Does i act) mine) h

  act_touches : (x y : Point) (i : ℕ) (act : Act) → IsTypedState p a.points x.state → Mine x.function (Does i act) → IsActed (executable p) x.function x.state y act → DoingTouches p a x y (Does i act)
  act_touches x y i act typed mine acted =
      let f = x.function in
      let s = x.state in
      let m = acted.makes in
      let types = types_in (executable p) f in
      let d : Doing = Does i act in
      let g = stands_in p f d mine in
      let t = cells.act_touches p order shapes a.points s typed (result_at (executable p) f) f g.function.result act m (doing_fit p fit f d g) (λ z r. doing_taken p f d g z r) acted.made_is in
      let k = act_kill p a.points s typed (result_at (executable p) f) f act m acted.made_is in
      record {
        effect = act_effect types act s m;
        effect_is = ap (option_map (act_effect types act s)) acted.made_is;
        of_function = contains_of_in (doings_of p f) d mine;
        touches = record {
          reads_are = all_touched s y.state.origins (act_uses p a.points act) (MayUse p a f d) (act_read types act s) typed acted.grows (λ l u. statement_use f i act l mine u) t.reads_are;
          stores_are = all_stored s y.state.origins (act_defines p a.points f act) (MayDefine p a f d) m.stores typed acted.grows (λ l u. statement_define f i act l mine u) t.stores_are;
          input_is = λ e. let u = reading_touches p a.points f act e in (statement_use f i act the_input mine u.0, statement_define f i act the_input mine u.1);
          result_is = λ v e. statement_define f i act (result_of f) mine (k.returned v e);
        };
        arguments = λ j to h args same. cc;
        overwrites = λ j other same. let number : i ≡ j = cc in subst (λ n. Overwrites p a f (Statement n) s (act_effect types act s m)) number (act_overwrites f i act s m typed mine k);
      }

  -- ---- calls

  -- an argument goes into the block of the parameter at its place
  record IsPassed (b : ℕ) (xs : List ℕ) (number : ℕ) (w : Touch) : Type 0 where
    parameter : ℕ
    parameter_is : slice_get xs number ≡ Some parameter
    cell_is : w.cell ≡ whole (b + number)

  passed_nth : (typing : Typing) (b : ℕ) (xs : List ℕ) (vs : List Value) (k : ℕ) (w : Touch) → slice_get (passed_into typing b xs vs) k ≡ Some w → IsPassed b xs k w
  passed_nth typing b [] vs k w e = none_there e
  passed_nth typing b (x ∷ xs) [] k w e = none_there e
  passed_nth typing b (x ∷ xs) (v ∷ vs) zero w e =
      let same : b ≡ b + 0 = omega arith in
      record { parameter = x; parameter_is = refl; cell_is = sym (ap (λ (u : Touch). u.cell) (some_same e)) ∙ ap whole same }
  passed_nth typing b (x ∷ xs) (v ∷ vs) (suc k) w e =
      let h = passed_nth typing (suc b) xs vs k w e in
      let same : suc b + k ≡ b + suc k = omega arith in
      record { parameter = h.parameter; parameter_is = h.parameter_is; cell_is = h.cell_is ∙ ap whole same }

  -- the blocks of parameters begin in the step
  passed_at : (g : ℕ) (s u c : State) (typing : Typing) → u.memory ≡ s.memory → u.origins ≡ s.origins → length s.origins ≡ length s.memory.blocks → ArePassed (executable p) (parameters_at (executable p) g) u c → (o : Option (List Value)) (k : ℕ) (w : Touch) → slice_get (option_map_or (passed_into typing (length s.memory.blocks) (parameters_at (executable p) g)) o []) k ≡ Some w → IsTouched p a s c.origins (IsPassedBy p a g k) w
  passed_at g s u c typing memory origins long h None k w e = none_there e
  passed_at g s u c typing memory origins long h (Some vs) k w e =
      one (passed_nth typing (length s.memory.blocks) (parameters_at (executable p) g) vs k w e)
    where
      one : IsPassed (length s.memory.blocks) (parameters_at (executable p) g) k w → IsTouched p a s c.origins (IsPassedBy p a g k) w
      one t =
          let begun : length u.origins ≡ length s.memory.blocks = ap length origins ∙ long in
          let made : slice_get c.origins (length s.memory.blocks + k) ≡ _ = subst (λ n. slice_get c.origins (n + k) ≡ Some (OfVariable t.parameter)) begun (h.blocks k t.parameter t.parameter_is) in
          let at : slice_get c.origins w.cell.block ≡ Some (OfVariable t.parameter) = ap (λ (q : Place). slice_get c.origins q.block) t.cell_is ∙ made in
          let block : w.cell.block ≡ length s.memory.blocks + k = ap (λ (q : Place). q.block) t.cell_is in
          record {
            location = variable t.parameter;
            location_is = location_named c.origins t.parameter w.cell at (ap (λ (q : Place). q.path) t.cell_is);
            among = pass_define g k t.parameter (subst (λ xs. slice_get xs k ≡ Some t.parameter) (parameters_are p g) t.parameter_is);
            counts = λ low. absurd (omega (arith, low, block));
          }

  -- what is so of what each argument reads is so of all
  all_arguments : (f : ℕ) (s : State) (P : Touch → Type 0) (args : List Expr) → ((k : ℕ) (arg : Expr) → slice_get args k ≡ Some arg → All P (argument_reads (executable p) f arg s)) → All P (arguments_read (executable p) f args s)
  all_arguments f s P [] h = All-nil P
  all_arguments f s P (e ∷ args) h =
      All-append P (argument_reads (executable p) f e s) (arguments_read (executable p) f args s) (h 0 e refl) (all_arguments f s P args (λ k arg is. h (suc k) arg is))

  -- for each call that a statement is, the arguments touch what they may
  abbrev IsCallOf : Point → Point → Effect → Doing → Type 0
  IsCallOf x y ef (Does i act) = Unit {0}
  IsCallOf x y ef (Calls i to g args) = ArgumentsTouch p a x y i to g args ef

  -- the values of the arguments of a call that begins
  arguments_there : (f g : ℕ) (args : List Expr) (s c : State) → called (executable p) f g args s ≡ Some c → (vs : List Value) × (eval_all (types_in (executable p) f) args s ≡ Some vs)
  arguments_there f g args s c is =
      let r = then_there (passed_to (executable p) f args s) (slice_get (executable p).functions g) c is in
      let vs = then_there (λ (us : List Value). _) (eval_all (types_in (executable p) f) args s) c r.same in
      (vs.value, vs.there)

  call_touches : (x y : Point) (i : ℕ) (to : Target) (g : ℕ) (args : List Expr) → IsSound (executable p) Mine x → IsTypedState p a.points x.state → Mine x.function (Calls i to g args) → called (executable p) x.function g args x.state ≡ Some y.state → DoingTouches p a x y (Calls i to g args)
  call_touches x y i to g args sound typed mine is =
      let f = x.function in
      let s = x.state in
      let e = executable p in
      let passed = called_passed e f s sound.placed sound.globals g args y.state is in
      let d : Doing = Calls i to g args in
      let h = stands_in p f d mine in
      let c = called_function p a.points to g args (doing_fit p fit f d h) in
      let vs = arguments_there f g args s y.state is in
      let operands = passed_operands p order shapes a.points s typed (result_at e f) c.function.params args c.passes in
      let taken : (z : ℕ) → any_takes p args z ≡ true → is_taken p z ≡ true = λ z r. doing_taken p f d h z (or_right (target_takes p to z) (any_takes p args z) r) in
      let stores = passed_at g s (fresh e s) y.state e.typing refl refl sound.placed.tracked passed (eval_all (types_in e f) args s) in
      let reads : (k : ℕ) (arg : Expr) → slice_get args k ≡ Some arg → All (IsTouched p a s y.state.origins (IsUsedBy p a f d (ActualIn i (Argument k)))) (argument_reads e f arg s) = λ k arg arg_is. all_touched s y.state.origins (expr_reads p a.points arg) (IsUsedBy p a f d (ActualIn i (Argument k))) (value_read (types_in e f) arg s) typed passed.grows (λ l z. argument_use f i to g args mine k arg l arg_is z) (argument_cells p order shapes a.points s typed (result_at e f) args vs.0 k arg operands taken vs.1 arg_is) in
      record {
        effect = call_effect e f g args s;
        effect_is = ap (option_map (λ (u : State). call_effect e f g args s)) is;
        of_function = contains_of_in (doings_of p f) d mine;
        touches = record {
          reads_are = all_arguments f s (IsTouched p a s y.state.origins (MayUse p a f d)) args (λ k arg arg_is. All-weaker (IsTouched p a s y.state.origins (IsUsedBy p a f d (ActualIn i (Argument k)))) (IsTouched p a s y.state.origins (MayUse p a f d)) (λ w t. record { location = t.location; location_is = t.location_is; among = record { vertex = ActualIn i (Argument k); use_is = t.among }; counts = t.counts }) (argument_reads e f arg s) (reads k arg arg_is));
          stores_are = all_from (IsTouched p a s y.state.origins (MayPass p a g)) (call_effect e f g args s).stores (λ w j. let n = get_of_in (call_effect e f g args s).stores w j in let t = stores n.0 w n.1 in record { location = t.location; location_is = t.location_is; among = record { parameter = n.0; pass_is = t.among }; counts = t.counts });
          input_is = λ u. absurd (false≢true u);
          result_is = λ v u. none_there u;
        };
        arguments = λ j to_ h_ args_ same. subst (IsCallOf x y (call_effect e f g args s)) same (record { reads_are = reads; stores_are = stores });
        overwrites = λ j act same. cc;
      }

  doing_touches : (x y : Point) (d : Doing) → IsSound (executable p) Mine x → IsTypedState p a.points x.state → Mine x.function d → Happened (executable p) x.function x.state y d → DoingTouches p a x y d
  doing_touches x y (Does i act) sound typed mine h = act_touches x y i act typed mine h
  doing_touches x y (Calls i to g args) sound typed mine h = call_touches x y i to g args sound typed mine h

  -- ---- the store after a call

  module _ (x : Point) (w : Waiting) (args : List Expr) (mine : Mine w.function (Calls w.call w.target x.function args)) (typed : IsTypedState p a.points (back_in (executable p) x.function w x.state)) where
    abbrev d : Doing
    d = Calls w.call w.target x.function args

    abbrev t : State
    t = back_in (executable p) x.function w x.state

    abbrev out_types : Types
    out_types = types_in (executable p) w.function

    back_origins : Grows t.origins x.state.origins
    back_origins = subst (Grows t.origins) (closed_origins (variables_at (executable p) x.function) x.state) (grows_not t.origins)

    nothing_received : w.target ≡ target.None → ReceiptTouches p a x w
    nothing_received is =
        record {
          args = args;
          effect = no_effect;
          effect_is = ap (λ to. store_received (executable p) out_types to x.state.returned t) is;
          of_function = contains_of_in (doings_of p w.function) d mine;
          touches = record { reads_are = All-nil _; stores_are = All-nil _; input_is = λ h. absurd (false≢true h); result_is = λ v h. none_there h };
          overwrites = record {
            cells_are = λ l y root kl. absurd (none_killed l kl);
            alone = λ l y root kl. absurd (none_killed l kl);
            input_is = λ kl. absurd (none_killed the_input kl);
            result_is = λ kl. absurd (none_killed (result_of w.function) kl);
          };
        }
      where
        none_killed : (l : Location) → out_kills p a.points w.function (doing_at p w.function w.call) Result l ≡ true → ⊥
        none_killed l kl = false≢true (subst (λ to. target_kills p a.points to l ≡ true) is (result_kills w.function w.call w.target x.function args mine l kl))

    input_apart : (y : ℕ) → the_input.root ≡ Variable y → ⊥
    input_apart y e = cc

    result_apart : (f y : ℕ) → (result_of f).root ≡ Variable y → ⊥
    result_apart f y e = cc

    something_received : target_slots p a.effects w.target ≡ Result ∷ [] → (m : Made) → received out_types w.target x.state.returned t ≡ Some m → receipt_effect (executable p) x.function w x.state ≡ Some (store_effect t.memory (target_read out_types w.target t) m) → ReceiptTouches p a x w
    something_received slot m is effect_is =
        let r = result_at (executable p) w.function in
        let h = stands_in p w.function d mine in
        let c = called_function p a.points w.target x.function args (doing_fit p fit w.function d h) in
        let v = then_there (λ (u : Value). given out_types w.target u t) x.state.returned m is in
        let k = target_touches p order shapes a.points t typed r w.target v.value m (given_target p order shapes a.points t typed r w.target c.function.result c.gives) (λ z u. doing_taken p w.function d h z (or_left (target_takes p w.target z) (any_takes p args z) u)) v.same in
        let variables = target_variables p a.points t typed r w.target in
        record {
          args = args;
          effect = store_effect t.memory (target_read out_types w.target t) m;
          effect_is = effect_is;
          of_function = contains_of_in (doings_of p w.function) d mine;
          touches = record {
            reads_are = all_touched t x.state.origins (target_reads p a.points w.target) (IsUsedBy p a w.function d (ActualOut w.call Result)) (target_read out_types w.target t) typed back_origins (λ l u. result_use w.function w.call w.target x.function args mine slot l u) k.reads_are;
            stores_are = all_stored t x.state.origins (target_places p a.points w.target) (IsDefinedBy p a w.function d (ActualOut w.call Result)) m.stores typed back_origins (λ l u. result_define w.function w.call w.target x.function args mine slot l u) k.stores_are;
            input_is = λ u. absurd (false≢true u);
            result_is = λ u z. none_there z;
          };
          overwrites = record {
            cells_are = λ l y root kl. target_overwritten p a.points t typed r w.target v.value m v.same l y root (killed_too l kl);
            alone = λ l y root kl. killed_global p a.points t typed r l y root (one_variable p a.points t typed r (target_kills p a.points w.target) variables l y root (killed_too l kl));
            input_is = λ kl. let z = variables the_input (killed_too the_input kl) in absurd (input_apart z.0 z.1);
            result_is = λ kl. let z = variables (result_of w.function) (killed_too (result_of w.function) kl) in absurd (result_apart w.function z.0 z.1);
          };
        }
      where
        killed_too : (l : Location) → out_kills p a.points w.function (doing_at p w.function w.call) Result l ≡ true → target_kills p a.points w.target l ≡ true
        killed_too l kl = result_kills w.function w.call w.target x.function args mine l kl

    stored_made : (ws : List Waiting) (tr : Trace) (y : Point) (o : Option Made) → stored_back w t ws tr o ≡ Moves y → (m : Made) × (o ≡ Some m)
    stored_made ws tr y None e = cc
    stored_made ws tr y (Some m) e = (m, refl)

    receipt_of : (to : Target) → w.target ≡ to → (ws : List Waiting) (tr : Trace) (y : Point) → went_back (executable p) to w x.state.returned t ws tr ≡ Moves y → ReceiptTouches p a x w
    receipt_of target.None is ws tr y e = nothing_received is
    receipt_of (target.Place b) is ws tr y e =
        let h = stored_made ws tr y (received out_types (target.Place b) x.state.returned t) e in
        something_received (ap (target_slots p a.effects) is) h.0 (ap (λ to. received out_types to x.state.returned t) is ∙ h.1) (ap (λ to. store_received (executable p) out_types to x.state.returned t) is ∙ (ap (option_map (store_effect t.memory (target_read out_types (target.Place b) t))) h.1 ∙ ap (λ to. Some (store_effect t.memory (target_read out_types to t) h.0)) (sym is)))
    receipt_of (target.Declared b) is ws tr y e =
        let h = stored_made ws tr y (received out_types (target.Declared b) x.state.returned t) e in
        something_received (ap (target_slots p a.effects) is) h.0 (ap (λ to. received out_types to x.state.returned t) is ∙ h.1) (ap (λ to. store_received (executable p) out_types to x.state.returned t) is ∙ (ap (option_map (store_effect t.memory (target_read out_types (target.Declared b) t))) h.1 ∙ ap (λ to. Some (store_effect t.memory (target_read out_types to t) h.0)) (sym is)))

  -- ---- points of a run

  doings_touch : (x : Point) → IsSound (executable p) Mine x → IsTypedState p a.points x.state → DoingsTouch p a x
  doings_touch x sound typed y d next e =
      doing_touches x y d sound typed (next_member (Mine x.function) x.rest d sound.inside next) (next_happened (executable p) x.function x.state y x.rest x.callers x.trace d next e)

  receipts_touch : (x : Point) → IsSound (executable p) Mine x → IsTypedState p a.points x.state → ReceiptsTouch p a x
  receipts_touch x sound typed y w ws rest callers e =
      let e_ = executable p in
      let g = x.function in
      let waits = subst (AreWaiting e_ Mine x.state.origins g) callers sound.callers in
      let moves : step_at e_ g End x.state (w ∷ ws) x.trace ≡ Moves y = sym (ap₂ (λ c us. step_at e_ g c x.state us x.trace) rest callers) ∙ e in
      let back = back_typed p a.points e_ g w x.state typed sound.placed waits.0.named in
      receipt_of x w waits.0.args waits.0.calls back w.target refl ws x.trace y moves

pub steps_touch : StepsTouchWhatVerticesSay
steps_touch p a well numbered is input x r =
    let sound = sound_run (executable p) (λ f d. IsIn (doings_of p f) d) (bodies p) input x r in
    let typed = (typed_run p a.points well is.points_are input x r).state in
    let order = well_formed_in_order p well in
    (doings_touch p a numbered order (type_is p) (programs_typed p well) x sound typed, receipts_touch p a numbered order (type_is p) (programs_typed p well) x sound typed)
