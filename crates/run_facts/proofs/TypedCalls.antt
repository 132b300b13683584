-- A state in which a called function begins is typed, and so is the caller's where its call is done.
use Rattle.std.proofs.Common.{◌≡◌, ℕ, ◌<◌, List, [], ◌∷◌, ◌++◌, length, Option, Some, None, true, inl, inr, refl, sym, ap, ◌∙◌, subst}
use Rattle.std.specs.Prelude.{option_map, option_and_then, is_some, slice_get}
use Rattle.std.proofs.lemmas.Bool.{false≢true, and_parts, or_left, or_right}
use Rattle.std.proofs.lemmas.Option.{slice_get-map}
use Rattle.c_language.proofs.Options.{some_same, then_there}
use Rattle.c_tree.specs.declared.expr.Expr.{Expr}
use Rattle.c_tree.specs.declared.program.Function.{Function}
use Rattle.c_tree.specs.declared.program.Program.{Program}
use Rattle.c_language.specs.declared.expr_type.Base.{Base}
use Rattle.c_language.specs.declared.expr_type.Layer.{Layer}
use Rattle.c_language.specs.declared.expr_type.ExprType.{ExprType}
use Rattle.c_language.specs.ExprRules.{holds_of}
use Rattle.c_language.specs.ExprTypes.{is_integer, is_pointer, value_type, is_assignable}
use Rattle.c_language.specs.TreeTypes.{type_of_variable}
use Rattle.c_meaning.specs.declared.value.Value.{Value}
use Rattle.c_meaning.specs.declared.value.Value.TheVariants.{Number, Null, To}
use Rattle.c_meaning.specs.Cells.{Subobject}
use Rattle.c_meaning.specs.Memory.{Entered, Block, unwritten}
use Rattle.c_meaning.specs.Values.{Types, OfVariable, State, whole, variable_opened, as_type, eval, eval_all}
use Rattle.c_meaning.specs.Acts.{store}
use Rattle.c_meaning.specs.Activations.{executable, routine_of, outside, types_in, result_at, opening, parameter_begun, passed, fresh, passed_to, called}
use Rattle.c_meaning.proofs.Frames.{get_last}
use Rattle.dep_model.specs.declared.location.Location.{Location}
use Rattle.dep_model.specs.Denoted.{Places, TargetsOf, expr_points, variable, whole as whole_places}
use Rattle.dep_model.specs.DoingEffects.{is_taken, expr_takes, any_takes}
use Rattle.dep_model.specs.LocationLists.{AreStructsInOrder}
use Rattle.dep_model.specs.MayPoint.{Pointing, pointing, passed as passed_pointings}
use Rattle.dep_model.proofs.Membership.{IsIn}
use Rattle.run_facts.specs.TypedStates.{IsValue, IsTypedState}
use Rattle.run_facts.proofs.AssignedValues.{assigned_value}
use Rattle.run_facts.proofs.Blocks.{AreNamed}
use Rattle.run_facts.proofs.ExprsDenoted.{AreShapes}
use Rattle.run_facts.proofs.LaterStates.{IsLater, later_on, value_later}
use Rattle.run_facts.proofs.ListedObjects.{location_itself}
use Rattle.run_facts.proofs.TypedActs.{beside_there, pointer_value, variable_type, value_at, null_at}
use Rattle.run_facts.proofs.TypedParts.{variable_below}
use Rattle.run_facts.proofs.TypedStores.{recast_later, recast_typed, opened_typed, opened_later, IsFitStore, written_later, written_typed}
use Rattle.typed_programs.specs.TreeOperands.{Declarations, declarations, variable_shape}
use Rattle.typed_programs.specs.TypedStatements.{takes}
use Rattle.typed_programs.specs.TypedStatements as fits
use Rattle.typed_programs.proofs.TypedUses.{holds_there, operand_there}

-- ---- types of values

integer_value : (ls : List Layer) (b : Base) → is_integer (record { layers = ls; base = b }) ≡ true → is_integer (value_type (record { layers = ls; base = b })) ≡ true
integer_value [] b h = h
integer_value (l ∷ ls) b h = absurd (false≢true h)

-- a value of a type is one of the type that the values of its objects have
pub value_as_value : (p : Program) (s : State) (t : ExprType) (into : Places) (v : Value) → IsValue p s t into v → IsValue p s (value_type t) into v
value_as_value p s t into (Number z) h = integer_value t.layers t.base h
value_as_value p s t into Null h = ap is_pointer (pointer_value t h) ∙ h
value_as_value p s t into (To q) h = subst (λ (u : ExprType). IsValue p s u into (To q)) (sym (pointer_value t (ap is_some h.target_is))) h

module _ (p : Program) (order : AreStructsInOrder p) (shapes : AreShapes p) (points : TargetsOf) where
  abbrev d : Declarations
  d = declarations p

  -- ---- parameters

  module _ (s : State) (typed : IsTypedState p points s) (x : ℕ) (below : x < length p.vars) (w : Value) (value : IsValue p s (type_of_variable p x) (points (variable x)) w) where
    abbrev begun : State
    begun = variable_opened (outside (executable p)) x s

    abbrev block : Block
    block = unwritten s.memory.structs (type_of_variable p x) Entered

    begun_typed : IsTypedState p points begun
    begun_typed = opened_typed p points (outside (executable p)) x s (record { below = below; shape_is = refl }) typed

    begun_after : IsLater s begun
    begun_after = opened_later p points (outside (executable p)) x s typed

    parameter_fit : IsFitStore p points begun (store (whole (length s.memory.blocks)) w)
    parameter_fit = record {
      type = type_of_variable p x;
      type_is = ap (option_and_then (λ (b : Block). option_map (λ (u : Subobject). u.type) (Some (record { type = b.shape; before = 0 })))) (get_last s.memory.blocks block);
      origin = OfVariable x;
      origin_is = subst (λ k. slice_get (s.origins ++ OfVariable x ∷ []) k ≡ Some (OfVariable x)) typed.tracked (get_last s.origins (OfVariable x));
      value_is = value_later s begun begun_after p (type_of_variable p x) (points (variable x)) w value;
    }

    pub parameter_typed : IsTypedState p points (parameter_begun (executable p) x s w)
    parameter_typed = written_typed p points order begun (store (whole (length s.memory.blocks)) w) begun_typed parameter_fit

    pub parameter_later : IsLater s (parameter_begun (executable p) x s w)
    parameter_later = later_on s begun (parameter_begun (executable p) x s w) begun_after (written_later p points begun (store (whole (length s.memory.blocks)) w))

  -- ---- arguments

  -- what arguments give, converted to the types of the parameters
  module _ (s : State) (typed : IsTypedState p points s) (result : Option ExprType) where
    abbrev types : Types
    types = record { typing = (executable p).typing; result = result }

    -- the state in which a callee's parameters have begun
    pub record HasPassed (u c : State) : Type 0 where
      pub typed_so : IsTypedState p points c
      pub later : IsLater u c
      pub silent : c.returned ≡ u.returned

    arguments_passed : (xs : List ℕ) (es : List Expr) (vs : List Value) (u c : State) → IsLater s u → IsTypedState p points u → ((z : Pointing) → IsIn (passed_pointings p points xs es) z → (l m : Location) → z.into l ≡ true → z.from m ≡ true → points l m ≡ true) → ((x : ℕ) → any_takes p es x ≡ true → is_taken p x ≡ true) → fits.passed d xs es ≡ true
        → eval_all types es s ≡ Some vs → passed (executable p) xs vs u ≡ Some c → HasPassed u c
    arguments_passed [] [] vs u c more so pairs taken h values e =
        let none : passed (executable p) [] [] u ≡ Some c = ap (λ (ws : List Value). passed (executable p) [] ws u) (some_same values) ∙ e in
        subst (HasPassed u) (some_same none) (record { typed_so = so; later = recast_later u u.frame u.returned u.unread; silent = refl })
    arguments_passed [] (a ∷ es) vs u c more so pairs taken h values e = absurd (false≢true h)
    arguments_passed (x ∷ xs) [] vs u c more so pairs taken h values e = absurd (false≢true h)
    arguments_passed (x ∷ xs) (a ∷ es) vs u c more so pairs taken h values e =
        let v = beside_there (eval types a s) (eval_all types es s) vs values in
        let k = and_parts (holds_of (takes d a) (variable_shape d x)) (fits.passed d xs es) h in
        let t = holds_there (takes d a) (variable_shape d x) k.0 in
        let y = operand_there d (is_assignable t.0) a t.2 in
        let all : passed (executable p) (x ∷ xs) (v.0 ∷ v.1.0) u ≡ Some c = ap (λ (ws : List Value). passed (executable p) (x ∷ xs) ws u) v.1.1.1.1 ∙ e in
        let w = then_there (λ (z : Value). passed (executable p) xs v.1.0 (parameter_begun (executable p) x u z)) (as_type (type_of_variable p x) v.0) c all in
        let type = variable_type p x t.0 t.1 in
        let converted : as_type t.0 v.0 ≡ Some w.value = ap (λ (z : ExprType). as_type z v.0) (sym type) ∙ w.there in
        let below = variable_below p x t.0 t.1 in
        let given = value_at p order shapes points s typed result (λ z. ⊥) a y.0 v.0 y.1 (λ z r. taken z (or_left (expr_takes p a z) (any_takes p es z) r)) v.1.1.0 in
        let null = null_at p order shapes points s typed result (λ z. ⊥) a y.0 v.0 y.1 v.1.1.0 in
        let value = assigned_value p s t.0 (points (variable x)) y.0 (expr_points p points a) (λ l. pairs (pointing (whole_places x) (expr_points p points a)) (inl refl) (variable x) l (location_itself (variable x))) y.2 v.0 w.value given null converted in
        let there = value_later s u more p (type_of_variable p x) (points (variable x)) w.value (subst (λ (z : ExprType). IsValue p s z (points (variable x)) w.value) (sym type) value) in
        let next = parameter_begun (executable p) x u w.value in
        let one = parameter_later u so x below w.value there in
        let rest = arguments_passed xs es v.1.0 next c (later_on s u next more one) (parameter_typed u so x below w.value there) (λ z i. pairs z (inr i)) (λ z r. taken z (or_right (expr_takes p a z) (any_takes p es z) r)) k.1 v.1.1.1.0 w.same in
        record { typed_so = rest.typed_so; later = later_on u next c one rest.later; silent = rest.silent }

    -- a called function begins, where its arguments are those of its parameters
    pub called_typed : (f g : ℕ) (k : Function) (args : List Expr) (c : State) → result_at (executable p) f ≡ result → slice_get p.functions g ≡ Some k → AreNamed (opening (executable p) []).frame s.origins → ((z : Pointing) → IsIn (passed_pointings p points k.params args) z → (l m : Location) → z.into l ≡ true → z.from m ≡ true → points l m ≡ true) → ((x : ℕ) → any_takes p args x ≡ true → is_taken p x ≡ true) → fits.passed d k.params args ≡ true
        → called (executable p) f g args s ≡ Some c → HasPassed (fresh (executable p) s) c
    called_typed f g k args c same at_ named pairs taken h e =
        let routine : slice_get (executable p).functions g ≡ Some (routine_of k) = slice_get-map routine_of p.functions g ∙ ap (option_map routine_of) at_ in
        let to : passed_to (executable p) f args s (routine_of k) ≡ Some c = sym (ap (option_and_then (passed_to (executable p) f args s)) routine) ∙ e in
        let vs = then_there (λ (us : List Value). passed (executable p) k.params us (fresh (executable p) s)) (eval_all (types_in (executable p) f) args s) c to in
        let values : eval_all types args s ≡ Some vs.value = subst (λ (r : Option ExprType). eval_all (record { typing = (executable p).typing; result = r }) args s ≡ Some vs.value) same vs.there in
        let u = fresh (executable p) s in
        arguments_passed k.params args vs.value u c (recast_later s u.frame None s.unread) (recast_typed s u.frame None s.unread p points typed named) pairs taken h values vs.same
