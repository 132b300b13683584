-- What an act makes in a typed state fits: each value that it stores is of its place's type and leads to where the place may point.
use Rattle.std.proofs.Common.{◌≡◌, ℕ, zero, suc, ◌+◌, ◌*◌, ◌<◌, ℤ, pos, List, [], ◌∷◌, ◌++◌, length, map, Option, Some, None, Bool, true, false, ◌&&◌, ◌⊎◌, inl, inr, refl, sym, ap, ap₂, ◌∙◌, subst, arith}
use Rattle.std.specs.Prelude.{not, neg_ℤ, nat_lt, nat_le, option_map, option_and_then, unwrap_or, is_some, slice_get, if◌then◌else◌}
use Rattle.std.specs.List.{list_all}
use Rattle.std.specs.Option.{option_map_or}
use Rattle.std.proofs.lemmas.Bool.{false≢true, and_parts, or_left, or_right, or_cases, lt-ltb}
use Rattle.c_arith.specs.declared.int_type.IntType.{IntType}
use Rattle.c_arith.specs.declared.int_type.IntType.TheVariants.{Int, UChar}
use Rattle.c_arith.specs.declared.operators.BinaryOp.{BinaryOp}
use Rattle.c_arith.specs.declared.operators.BinaryOp.TheVariants.{Mul, Div, Rem, Add, Sub, Shl, Shr, Less, Greater, AtMost, AtLeast, Equal, Unequal, And, Xor, Or}
use Rattle.c_arith.specs.IntType.{convert}
use Rattle.c_language.proofs.Options.{none_there, some_same, map_there, then_there}
use Rattle.c_language.proofs.Tests.{by_test}
use Rattle.c_tree.specs.declared.expr.Expr.{Expr}
use Rattle.c_tree.specs.declared.program.Init.{Init}
use Rattle.c_tree.specs.declared.program.Init.TheVariants as init
use Rattle.c_tree.specs.declared.program.Program.{Program}
use Rattle.c_tree.specs.declared.program.Var.{Var}
use Rattle.c_tree.specs.declared.statement.Amount.{Amount}
use Rattle.c_tree.specs.declared.statement.Target.{Target}
use Rattle.c_tree.specs.declared.statement.Target.TheVariants as target
use Rattle.c_tree.specs.declared.types.CType.{CType}
use Rattle.c_language.specs.Code.{Act, Begins, Sets, Bumps, Fetches, Writes, Prints, Allocates, Frees, Returns, Tests}
use Rattle.c_language.specs.ConstantEvaluation.{operand_type}
use Rattle.c_language.specs.DeclaredTypes.{integer, void}
use Rattle.c_language.specs.declared.expr_type.Base.{Base}
use Rattle.c_language.specs.declared.expr_type.Layer.{Layer}
use Rattle.c_language.specs.declared.expr_type.Layer.TheVariants as layer
use Rattle.c_language.specs.declared.expr_type.ExprType.{ExprType}
use Rattle.c_language.specs.declared.expr_type.Operand.{Operand}
use Rattle.c_language.specs.ExprTypes.{a_value, value_type, target_in, target_of, is_integer, is_pointer, is_scalar, is_array, is_assignable}
use Rattle.c_language.specs.TreeTypes.{shape_of, typing_of, type_of_variable, int_type, pointee}
use Rattle.c_meaning.specs.declared.value.Hop.{Hop}
use Rattle.c_meaning.specs.declared.value.Hop.TheVariants as hop
use Rattle.c_meaning.specs.declared.value.Place.{Place}
use Rattle.c_meaning.specs.declared.value.Pointer.{Pointer}
use Rattle.c_meaning.specs.declared.value.Value.{Value}
use Rattle.c_meaning.specs.declared.value.Value.TheVariants.{Number, Null, To}
use Rattle.c_meaning.specs.Cells.{Subobject, cell_count}
use Rattle.c_meaning.specs.Memory.{Allocated, Block, Memory, read, can_free, unwritten, array_of}
use Rattle.c_meaning.specs.Pointers.{type_at, inside, are_equal, equality, as_it_is, moved, moved_by, moved_back, at_pointer_left}
use Rattle.c_meaning.specs.Values.{Types, Origin, OfVariable, OfStatement, State, Meant, whole, variable_place, tested, pointer_as, as_type, at_operands, binary_value, type_of, place, eval, beside, eval_all}
use Rattle.c_meaning.specs.Acts.{Store, Made, Request, target_type, shows, store, storing, writable, assigned, right_of, bump, bumped, zero_of, list_stores, all_as, all_cells, storing_all, listed_in, listed, given, next_byte, taking, put_out, printed_all, asked_count, granted, beginning, next_block, begun_for, freed_at, as_result, returning, shown_result, begun_with, made}
use Rattle.c_meaning.proofs.Frames.{get_last}
use Rattle.dep_model.specs.declared.location.Location.{Location}
use Rattle.dep_model.specs.declared.location.Part.TheVariants as part
use Rattle.dep_model.specs.declared.location.Root.TheVariants.{Variable}
use Rattle.dep_model.specs.Denoted.{Places, TargetsOf, no_places, whole as whole_places, part_of, denoted, expr_points, expr_places, variable, inside as inside_location}
use Rattle.dep_model.specs.Designated.{Designated, value_takes}
use Rattle.dep_model.specs.DoingEffects.{expr_takes, left_takes, any_takes, maybe_takes, init_takes, target_takes, amount_takes, act_takes, target_places, result_of}
use Rattle.dep_model.specs.LocationLists.{AreStructsInOrder}
use Rattle.dep_model.specs.Locations.{Heap, target_type as target_shape, act_heaps, function_heaps, locations, same_location}
use Rattle.dep_model.specs.MayPoint.{Pointing, pointing, site, listed as listed_pointings, init_pointings, returned as returned_pointings, act_pointings}
use Rattle.dep_model.proofs.Membership.{IsIn, contains_of_in}
use Rattle.run_facts.proofs.DenotedForms.{form_is}
use Rattle.run_facts.specs.CellLocations.{location_in}
use Rattle.run_facts.specs.DenotedCells.{AreTaken, IsObject, IsDenoted}
use Rattle.run_facts.specs.PointerLocations.{is_object}
use Rattle.run_facts.specs.ReadCells.{watched}
use Rattle.run_facts.specs.TypedStates.{IsSiteBlock, IsValue, IsTypedState}
use Rattle.run_facts.proofs.AssignedValues.{assigned_there, writable_there, converted_value, assigned_value}
use Rattle.run_facts.proofs.BinaryForms.{pointers_number}
use Rattle.run_facts.proofs.ExprsDenoted.{AreShapes, has_type, expr_denoted}
use Rattle.run_facts.proofs.LaterStates.{IsLater, type_later}
use Rattle.run_facts.proofs.ListedObjects.{typed_location, part_among, location_itself, object_listed, elements_listed}
use Rattle.run_facts.proofs.ObjectForms.{both_there, name_object}
use Rattle.run_facts.proofs.PointedObjects.{moved_value}
use Rattle.run_facts.proofs.SameValues.{means_it}
use Rattle.run_facts.proofs.Subobjects.{part_at}
use Rattle.run_facts.proofs.TypedStores.{IsFitStore, AreFit, IsFitMade, begun_state, request_later}
use Rattle.typed_programs.specs.TreeOperands.{Declarations, declarations, variable_shape, operand_of}
use Rattle.typed_programs.specs.TypedStatements.{passes, is_left_side, takes, assigns, sets, bumps, lists, begins_with, begins, stores, holds_objects, allocates, returns, act_fits}
use Rattle.typed_programs.proofs.TypedUses.{holds_there, operand_there}

-- ---- operators that give pointers

number_no_pointer : {A : Type 0} (z : ℤ) (q : Pointer) → Number z ≡ To q → A
number_no_pointer z q e = cc

-- a pointer that an operator gives is its left operand, moved
abbrev pub Moves : Memory → Value → Pointer → Type 0
Moves m x q = (z : ℤ) × (moved m z x ≡ Some (To q))

sum_moves : (m : Memory) (x y : Value) (q : Pointer) → moved_by m x y ≡ Some (To q) → Moves m x q
sum_moves m x (Number z) q e = (z, e)
sum_moves m x Null q e = none_there e
sum_moves m x (To r) q e = none_there e

difference_moves : (m : Memory) (x y : Value) (q : Pointer) → moved_back m x y ≡ Some (To q) → Moves m x q
difference_moves m x (Number z) q e = (neg_ℤ z, e)
difference_moves m x Null q e = none_there e
difference_moves m x (To r) q e = none_there e

no_equality : {A : Type 0} (f : Bool → Bool) (o : Option Bool) (q : Pointer) → equality f o ≡ Some (To q) → A
no_equality f None q e = none_there e
no_equality f (Some b) q e = number_no_pointer _ q (some_same e)

left_moves : (op : BinaryOp) (m : Memory) (x y : Value) (q : Pointer) → at_pointer_left op m x y ≡ Some (To q) → Moves m x q
left_moves Add m x y q e = sum_moves m x y q e
left_moves Sub m x y q e = difference_moves m x y q e
left_moves Equal m x y q e = no_equality as_it_is (are_equal m x y) q e
left_moves Unequal m x y q e = no_equality not (are_equal m x y) q e
left_moves Mul m x y q e = none_there e
left_moves Div m x y q e = none_there e
left_moves Rem m x y q e = none_there e
left_moves Shl m x y q e = none_there e
left_moves Shr m x y q e = none_there e
left_moves Less m x y q e = none_there e
left_moves Greater m x y q e = none_there e
left_moves AtMost m x y q e = none_there e
left_moves AtLeast m x y q e = none_there e
left_moves And m x y q e = none_there e
left_moves Xor m x y q e = none_there e
left_moves Or m x y q e = none_there e

pub operands_move : (op : BinaryOp) (a b : Bool) (i : IntType) (m : Memory) (x y : Value) (q : Pointer) → a ≡ true → at_operands a b op i m x y ≡ Some (To q) → Moves m x q
operands_move op true true i m x y q is e = let n = pointers_number op m x y (To q) e in number_no_pointer n.0 q n.1
operands_move op true false i m x y q is e = left_moves op m x y q e
operands_move op false b i m x y q is e = absurd (false≢true is)

pointer_target : (ls : List Layer) (b : Base) → is_some (target_in ls b) ≡ true → value_type (record { layers = ls; base = b }) ≡ record { layers = ls; base = b }
pointer_target [] b h = refl
pointer_target (layer.Pointer ∷ ls) b h = refl
pointer_target (layer.Array n ∷ ls) b h = absurd (false≢true h)

-- the value of a scalar type has the type
pub pointer_value : (t : ExprType) → is_pointer t ≡ true → value_type t ≡ t
pointer_value t h = pointer_target t.layers t.base h

pub scalar_no_array : (ls : List Layer) (b : Base) → is_scalar (record { layers = ls; base = b }) ≡ true → is_array (record { layers = ls; base = b }) ≡ false
scalar_no_array [] b h = refl
scalar_no_array (layer.Pointer ∷ ls) b h = refl
scalar_no_array (layer.Array n ∷ ls) b h = absurd (false≢true h)

-- two values, one beside the other
pub beside_there : (o : Option Value) (os : Option (List Value)) (vs : List Value) → beside o os ≡ Some vs → (v : Value) × ((us : List Value) × ((o ≡ Some v) × ((os ≡ Some us) × (v ∷ us ≡ vs))))
beside_there None os vs e = none_there e
beside_there (Some v) None vs e = none_there e
beside_there (Some v) (Some us) vs e = (v, (us, (refl, (refl, some_same e))))

-- what a list for an array makes
pub stored_all_there : (mem : Memory) (n : ℕ) (vs : List Value) (ws : List Store) (m : Made) → storing_all mem n vs ws ≡ Some m → record (shows vs []) { stores = ws } ≡ m
stored_all_there mem n vs ws m e = by_test (nat_le (length vs) n && all_cells mem ws) e (λ is same. some_same same) (λ is none. none_there none)

-- ---- variables

shape_there : (vs : List Var) (x : ℕ) (t : ExprType) (o : ExprType) → slice_get (map (λ (v : Var). shape_of v.shape) vs) x ≡ Some t → option_map_or (λ (v : Var). shape_of v.shape) (slice_get vs x) o ≡ t
shape_there [] x t o e = none_there e
shape_there (v ∷ vs) zero t o e = some_same e
shape_there (v ∷ vs) (suc x) t o e = shape_there vs x t o e

pub variable_type : (p : Program) (x : ℕ) (t : ExprType) → variable_shape (declarations p) x ≡ Some t → type_of_variable p x ≡ t
variable_type p x t e = shape_there p.vars x t (integer Int) e

module _ (p : Program) (order : AreStructsInOrder p) (shapes : AreShapes p) (points : TargetsOf) (s : State) (typed : IsTypedState p points s) (result : Option ExprType) (MayReturn : Value → Type 0) where
  abbrev types : Types
  types = record { typing = typing_of p; result = result }

  abbrev d : Declarations
  d = declarations p

  abbrev Taken : (ℕ → Bool) → Type 0
  Taken taken = AreTaken p s taken

  -- ---- expressions

  pub denoted_at : (e : Expr) (x : Operand) → operand_of d e ≡ Some x → IsDenoted p s points x.is_null (denoted p points e) (watched types e)
  denoted_at e x h = expr_denoted p order points s typed result shapes e x h

  pub shape_at : (e : Expr) (x : Operand) → operand_of d e ≡ Some x → (denoted p points e).form.type ≡ x.shape
  shape_at e x h = has_type p points e ∙ shapes e x h

  pub type_at_operand : (e : Expr) (x : Operand) → operand_of d e ≡ Some x → type_of types e ≡ x.shape
  type_at_operand e x h = sym (ap (λ (m : Meant). m.type) (means_it types e)) ∙ ((denoted_at e x h).type_is ∙ shape_at e x h)

  watched_value : (e : Expr) (v : Value) → eval types e s ≡ Some v → (watched types e).meant.value s ≡ Some v
  watched_value e v h = ap (λ (m : Meant). m.value s) (means_it types e) ∙ h

  -- a value that an expression gives
  pub value_at : (e : Expr) (x : Operand) (v : Value) → operand_of d e ≡ Some x → Taken (expr_takes p e) → eval types e s ≡ Some v → IsValue p s (value_type x.shape) (expr_points p points e) v
  value_at e x v h taken e_is =
      subst (λ (t : ExprType). IsValue p s (value_type t) (expr_points p points e) v) (shape_at e x h)
      ((denoted_at e x h).value (subst (λ (k : Designated). Taken (value_takes k)) (sym (form_is p points e)) taken) v (watched_value e v e_is))

  pub null_at : (e : Expr) (x : Operand) (v : Value) → operand_of d e ≡ Some x → eval types e s ≡ Some v → x.is_null ≡ true → (q : Pointer) → v ≡ To q → ⊥
  null_at e x v h e_is null q is = (denoted_at e x h).null null q (watched_value e v e_is ∙ ap Some is)

  -- ---- places that are stored to

  -- the object at a place has the type, and its location is one of these
  pub record IsStorePlace (places : Places) (t : ExprType) (q : Place) : Type 0 where
    pub type_is : type_at s.memory q ≡ Some t
    pub origin : Origin
    pub origin_is : slice_get s.origins q.block ≡ Some origin
    pub among : places (location_in origin q.path) ≡ true

  pub left_object : (e : Expr) (x : Operand) (q : Place) → operand_of d e ≡ Some x → Taken (left_takes p e) → place types e s ≡ Some q → IsObject p s (denoted p points e) q
  left_object e x q h taken at_ =
      (denoted_at e x h).object (subst (λ (k : Designated). Taken k.takes) (sym (form_is p points e)) taken) q (ap (λ (m : Meant). m.place s) (means_it types e) ∙ at_)

  left_place : (e : Expr) (x : Operand) (q : Place) → operand_of d e ≡ Some x → Taken (left_takes p e) → place types e s ≡ Some q → IsStorePlace (expr_places p points e) x.shape q
  left_place e x q h taken at_ =
      let o = left_object e x q h taken at_ in
      record { type_is = o.type_is ∙ ap Some (shape_at e x h); origin = o.origin; origin_is = o.origin_is; among = o.among }

  -- what a place holds as the value of a left side that is no array
  held_at : (e : Expr) (x : Operand) (q : Place) (v : Value) → operand_of d e ≡ Some x → is_scalar x.shape ≡ true → Taken (left_takes p e) → place types e s ≡ Some q → eval types e s ≡ Some v → (k : IsStorePlace (expr_places p points e) x.shape q) → IsValue p s x.shape (points (location_in k.origin q.path)) v
  held_at e x q v h scalar taken at_ e_is k =
      let o = left_object e x q h taken at_ in
      let w = watched types e in
      let array : is_array (denoted p points e).form.type ≡ false = ap is_array (shape_at e x h) ∙ scalar_no_array x.shape.layers x.shape.base scalar in
      let cell : read s.memory q ≡ Some v =
      sym (ap (option_and_then (read s.memory)) (ap (λ (m : Meant). m.place s) (means_it types e) ∙ at_)) ∙ (sym ((denoted_at e x h).cell_is o.is_place array) ∙ watched_value e v e_is) in
      typed.cells q v x.shape k.origin cell k.type_is k.origin_is

  variable_at : (x : ℕ) (t : ExprType) (q : Place) → variable_shape d x ≡ Some t → variable_place x s ≡ Some q → IsStorePlace (whole_places x) t q
  variable_at x t q h at_ =
      let o = name_object p order points s typed x q at_ in
      record { type_is = o.type_is ∙ ap Some (variable_type p x t h); origin = o.origin; origin_is = o.origin_is; among = o.among }

  -- a value that is stored there
  fit_at : (i : ℕ) (places : Places) (t : ExprType) (q : Place) (w : Value) (m : Made) → (k : IsStorePlace places t q) → IsValue p s t (points (location_in k.origin q.path)) w → storing q w ≡ m → IsFitMade p points i s MayReturn m
  fit_at i places t q w m k v same =
      subst (IsFitMade p points i s MayReturn) same
      (record { sites = λ r e. none_there e; stores = (record { type = t; type_is = k.type_is; origin = k.origin; origin_is = k.origin_is; value_is = v }, tt); returns = λ u e. none_there e })

  -- what is shown alone
  shown_fit : (i : ℕ) (m : Made) → m.begun ≡ None → m.stores ≡ [] → ((v : Value) → m.returned ≡ Some v → MayReturn v) → IsFitMade p points i s MayReturn m
  shown_fit i m none empty returns_ = record {
    sites = λ r e. none_there (sym none ∙ e);
    stores = subst (AreFit p points (begun_state p points i s m.begun)) (sym empty) tt;
    returns = returns_;
  }

  -- ---- assignments

  -- pointings hold of the relation, as far as they lead into these places from those
  abbrev Pairs : Places → Places → Type 0
  Pairs into from = (l m : Location) → into l ≡ true → from m ≡ true → points l m ≡ true

  module _ (i : ℕ) (places from : Places) (pairs : Pairs places from) (y : Operand) (v : Value) (value : IsValue p s (value_type y.shape) from v) (null : y.is_null ≡ true → (q : Pointer) → v ≡ To q → ⊥) where
    -- a value goes to a place of a type that takes it
    set_fit : (t u : ExprType) (o : Option Place) (m : Made) → u ≡ t → is_assignable t y ≡ true → ((q : Place) → o ≡ Some q → IsStorePlace places t q) → assigned u (writable s o) (Some v) ≡ Some m → IsFitMade p points i s MayReturn m
    set_fit t u o m same takes_ at_ e =
        let k = assigned_there u (writable s o) (Some v) m e in
        let q = at_ k.place (writable_there s o k.place k.place_is) in
        let l = location_in q.origin k.place.path in
        let converted : as_type t v ≡ Some k.stored = ap₂ as_type (sym same) (some_same k.value_is) ∙ k.stored_is in
        fit_at i places t k.place k.stored m q (assigned_value p s t (points l) y from (λ n h. pairs l n q.among h) takes_ v k.stored value null converted) k.same

  -- a value for the target of a call
  pub given_fit : (i : ℕ) (to : Target) (from : Places) → Pairs (target_places p points to) from → (y : Operand) (v : Value) → IsValue p s (value_type y.shape) from v → (y.is_null ≡ true → (q : Pointer) → v ≡ To q → ⊥) → stores d to y ≡ true → Taken (target_takes p to)
      → (m : Made) → given types to v s ≡ Some m → IsFitMade p points i s MayReturn m
  given_fit i target.None from pairs y v value null h taken m e = subst (IsFitMade p points i s MayReturn) (some_same e) (shown_fit i (shows (v ∷ []) []) refl refl (λ u k. none_there k))
  given_fit i (target.Place e) from pairs y v value null h taken m is =
      let k = and_parts (passes d is_left_side e) (passes d (λ (x : Operand). is_assignable x.shape y) e) h in
      let x = operand_there d (λ (z : Operand). is_assignable z.shape y) e k.1 in
      set_fit i (expr_places p points e) from pairs y v value null x.0.shape (type_of types e) (place types e s) m (type_at_operand e x.0 x.1) x.2 (λ q at_. left_place e x.0 q x.1 taken at_) is
  given_fit i (target.Declared x) from pairs y v value null h taken m is =
      let t = holds_there (λ (z : ExprType). is_scalar z && is_assignable z y) (variable_shape d x) h in
      set_fit i (whole_places x) from pairs y v value null t.0 (type_of_variable p x) (variable_place x s) m (variable_type p x t.0 t.1) (and_parts (is_scalar t.0) (is_assignable t.0 y) t.2).1 (λ q at_. variable_at x t.0 q t.1 at_) is

  -- an assignment of an expression, to a place of a type that takes it
  expr_fit : (i : ℕ) (places : Places) (e : Expr) → Pairs places (expr_points p points e) → Taken (expr_takes p e) → (t u : ExprType) (o : Option Place) (m : Made) → u ≡ t → takes d e t ≡ true → ((q : Place) → o ≡ Some q → IsStorePlace places t q) → assigned u (writable s o) (eval types e s) ≡ Some m → IsFitMade p points i s MayReturn m
  expr_fit i places e pairs taken t u o m same h at_ is =
      let x = operand_there d (is_assignable t) e h in
      let k = assigned_there u (writable s o) (eval types e s) m is in
      set_fit i places (expr_points p points e) pairs x.0 k.value (value_at e x.0 k.value x.1 taken k.value_is) (null_at e x.0 k.value x.1 k.value_is) t u o m same x.2 at_
      (ap (assigned u (writable s o)) (sym k.value_is) ∙ is)

  -- ---- compound assignments

  -- what an operator gives at what the left side holds, and something else, stays in the array of what it holds
  module _ (i : ℕ) (e : Expr) (x : Operand) (x_is : operand_of d e ≡ Some x) (left : is_left_side x ≡ true) (taken : Taken (left_takes p e)) where
    scalar : is_scalar x.shape ≡ true
    scalar = (and_parts x.is_place (is_scalar x.shape) left).1

    moved_fit : (op : BinaryOp) (t : ExprType) (other : Option Value) (m : Made) → assigned (type_of types e) (writable s (place types e s)) (binary_value op (type_of types e) t s.memory (eval types e s) other) ≡ Some m → IsFitMade p points i s MayReturn m
    moved_fit op t other m is =
        let k = assigned_there (type_of types e) (writable s (place types e s)) (binary_value op (type_of types e) t s.memory (eval types e s) other) m is in
        let at_ = writable_there s (place types e s) k.place k.place_is in
        let q = left_place e x k.place x_is taken at_ in
        let l = location_in q.origin k.place.path in
        let g = at_operands (is_pointer (value_type (type_of types e))) (is_pointer (value_type t)) op (operand_type op (int_type (type_of types e)) (int_type t)) s.memory in
        let b = both_there g (eval types e s) other k.value k.value_is in
        let shape = type_at_operand e x x_is in
        let held = held_at e x k.place b.0 x_is scalar taken at_ b.1.1.0 q in
        let converted : as_type x.shape k.value ≡ Some k.stored = ap (λ (z : ExprType). as_type z k.value) (sym shape) ∙ k.stored_is in
        fit_at i (expr_places p points e) x.shape k.place k.stored m q
        (converted_value p s x.shape (points l) k.value k.stored (scalar_either x.shape scalar) (λ r is_ pointer.
        let value : is_pointer (value_type (type_of types e)) ≡ true = ap (λ (z : ExprType). is_pointer (value_type z)) shape ∙ (ap is_pointer (pointer_value x.shape pointer) ∙ pointer) in
        let n = operands_move op (is_pointer (value_type (type_of types e))) (is_pointer (value_type t)) (operand_type op (int_type (type_of types e)) (int_type t)) s.memory b.0 b.1.0 r value (b.1.1.1.1 ∙ ap Some is_) in
        moved_value p s x.shape (points l) b.0 n.0 (To r) held n.1) converted) k.same
      where
        scalar_either : (z : ExprType) → is_scalar z ≡ true → (is_integer z ≡ true) ⊎ (is_pointer z ≡ true)
        scalar_either z h = or_cases (is_integer z) (is_pointer z) h

  sets_fit : (i : ℕ) (left : Expr) (op : Option BinaryOp) (right : Expr) → Pairs (expr_places p points left) (expr_points p points right) → sets d left op right ≡ true → Taken (left_takes p left) → Taken (expr_takes p right)
      → (m : Made) → assigned (type_of types left) (writable s (place types left s)) (right_of types op left right s) ≡ Some m → IsFitMade p points i s MayReturn m
  sets_fit i left None right pairs h first second m is =
      let k = and_parts (passes d is_left_side left) (passes d (λ (x : Operand). passes d (assigns None x) right) left) h in
      let x = operand_there d (λ (z : Operand). passes d (assigns None z) right) left k.1 in
      expr_fit i (expr_places p points left) right pairs second x.0.shape (type_of types left) (place types left s) m (type_at_operand left x.0 x.1) x.2 (λ q at_. left_place left x.0 q x.1 first at_) is
  sets_fit i left (Some op) right pairs h first second m is =
      let k = and_parts (passes d is_left_side left) (passes d (λ (x : Operand). passes d (assigns (Some op) x) right) left) h in
      let x = operand_there d is_left_side left k.0 in
      moved_fit i left x.0 x.1 x.2 first op (type_of types right) (eval types right s) m is

  bumps_fit : (i : ℕ) (left : Expr) (up : Bool) → bumps d left ≡ true → Taken (left_takes p left) → (m : Made) → assigned (type_of types left) (writable s (place types left s)) (bumped types left up s) ≡ Some m → IsFitMade p points i s MayReturn m
  bumps_fit i left up h taken m is =
      let k = and_parts (passes d is_left_side left) _ h in
      let x = operand_there d is_left_side left k.0 in
      moved_fit i left x.0 x.1 x.2 taken (bump up) (integer Int) (Some (Number (pos 1))) m is

  -- ---- lists

  -- what is stored for an item
  abbrev ItemsAt : ExprType → Places → List Value → Type 0
  ItemsAt t into [] = Unit {0}
  ItemsAt t into (w ∷ ws) = IsValue p s t into w × ItemsAt t into ws

  zero_typed : (t : ExprType) (into : Places) → is_scalar t ≡ true → IsValue p s t into (zero_of t)
  zero_typed t into scalar = by_integer (is_integer t) refl
    where
      by_integer : (b : Bool) → is_integer t ≡ b → IsValue p s t into (if b then Number (pos 0) else Null)
      by_integer true is = is
      by_integer false is = elim (or_cases (is_integer t) (is_pointer t) scalar) [ inl h ↦ absurd (false≢true (sym is ∙ h)) | inr h ↦ h ]

  module _ (x n : ℕ) (ls : List Layer) (b : Base) (q : Place) (k : IsStorePlace (whole_places x) (record { layers = layer.Array n ∷ ls; base = b }) q) (named : k.origin ≡ OfVariable x) (none : q.path ≡ []) where
    abbrev element : ExprType
    element = record { layers = ls; base = b }

    abbrev array : ExprType
    array = record { layers = layer.Array n ∷ ls; base = b }

    abbrev item_location : Location
    item_location = record { root = Variable x; path = part.Element ∷ [] }

    element_there : (i : ℕ) → i < n → type_at s.memory (inside (hop.Element i) q) ≡ Some element
    element_there i low = part_at s.memory q (hop.Element i) array element k.type_is (ap (λ (c : Bool). option_map (λ (o : Subobject). o.type) (if c then Some (record { type = element; before = i * cell_count s.memory.structs element }) else None)) (lt-ltb i n low))

    element_location : (i : ℕ) → location_in k.origin (inside (hop.Element i) q).path ≡ item_location
    element_location i = ap (λ (o : Origin). location_in o (inside (hop.Element i) q).path) named ∙ ap (λ hops. location_in (OfVariable x) (hops ++ hop.Element i ∷ [])) none

    item_fit : (i : ℕ) (w : Value) → i < n → IsValue p s element (points item_location) w → IsFitStore p points s (store (inside (hop.Element i) q) w)
    item_fit i w low v = record {
      type = element;
      type_is = element_there i low;
      origin = k.origin;
      origin_is = k.origin_is;
      value_is = subst (λ (l : Location). IsValue p s element (points l) w) (sym (element_location i)) v;
    }

    items_fit : (i left : ℕ) (ws : List Value) → i + left ≡ n → is_scalar element ≡ true → ItemsAt element (points item_location) ws → AreFit p points s (list_stores q element i left ws)
    items_fit i zero ws e scalar h = tt
    items_fit i (suc left) [] e scalar h =
        let low : i < n = omega (arith, e) in
        let rest : suc i + left ≡ n = omega (arith, e) in
        (item_fit i (zero_of element) low (zero_typed element (points item_location) scalar), items_fit (suc i) left [] rest scalar tt)
    items_fit i (suc left) (w ∷ ws) e scalar h =
        let low : i < n = omega (arith, e) in
        let rest : suc i + left ≡ n = omega (arith, e) in
        (item_fit i w low h.0, items_fit (suc i) left ws rest scalar h.1)

    -- the elements of the variable are among those into which the pointings of a list lead
    item_among : part_of p part.Element (whole_places x) item_location ≡ true
    item_among =
        let here = object_listed p order points s typed q k.origin array k.origin_is (ap2 is_object named none) k.type_is in
        let there = elements_listed p order points s typed q k.origin array k.origin_is (ap2 is_object named none) k.type_is refl in
        let l : location_in k.origin q.path ≡ variable x = ap2 location_in named none in
        part_among p part.Element (whole_places x) (variable x) item_location array element (subst (λ z. IsIn (locations p) (typed_location p z array)) l here) (subst (λ z. IsIn (locations p) (typed_location p (inside_location z part.Element) element)) l there) refl (location_itself (variable x))
      where
        ap2 : {A : Type 0} (f : Origin → List Hop → A) → k.origin ≡ OfVariable x → q.path ≡ [] → f k.origin q.path ≡ f (OfVariable x) []
        ap2 f e h = ap (λ (o : Origin). f o q.path) e ∙ ap (f (OfVariable x)) h

  -- what the expressions of a list give, converted to the type of the elements
  list_items : (t : ExprType) (x : ℕ) (into : Places) (es : List Expr) (vs ws : List Value) → ((a : Pointing) → IsIn (listed_pointings p points x es) a → (m : Location) → a.from m ≡ true → into m ≡ true) → list_all (λ (e : Expr). takes d e t) es ≡ true → Taken (any_takes p es)
      → eval_all types es s ≡ Some vs → all_as t vs ≡ Some ws → ItemsAt t into ws
  list_items t x into [] vs ws pairs h taken values same =
      subst (ItemsAt t into) (some_same (ap (all_as t) (some_same values) ∙ same)) tt
  list_items t x into (e ∷ es) vs ws pairs h taken values same =
      let k = and_parts (takes d e t) (list_all (λ (z : Expr). takes d z t) es) h in
      let v = beside_there (eval types e s) (eval_all types es s) vs values in
      let all : all_as t (v.0 ∷ v.1.0) ≡ Some ws = ap (all_as t) v.1.1.1.1 ∙ same in
      let w = beside_there (as_type t v.0) (all_as t v.1.0) ws all in
      let y = operand_there d (is_assignable t) e k.0 in
      let here = assigned_value p s t into y.0 (expr_points p points e) (λ l m. pairs (pointing (part_of p part.Element (whole_places x)) (expr_points p points e)) (inl refl) l m) y.2 v.0 w.0 (value_at e y.0 v.0 y.1 (λ z u. taken z (or_left (expr_takes p e z) (any_takes p es z) u)) v.1.1.0) (null_at e y.0 v.0 y.1 v.1.1.0) w.1.1.0 in
      subst (ItemsAt t into) w.1.1.1.1
      (here, list_items t x into es v.1.0 w.1.0 (λ a c. pairs a (inr c)) k.1 (λ z u. taken z (or_right (expr_takes p e z) (any_takes p es z) u)) v.1.1.1.0 w.1.1.1.0)

  module _ (i x : ℕ) (es : List Expr) (pairs : (a : Pointing) → IsIn (listed_pointings p points x es) a → Pairs a.into a.from) (taken : Taken (any_takes p es)) where
    -- a list for an array
    array_fit : (n : ℕ) (ls : List Layer) (b : Base) (m : Made) → type_of_variable p x ≡ record { layers = layer.Array n ∷ ls; base = b } → lists d es (record { layers = ls; base = b }) n ≡ true
        → listed (record { layers = layer.Array n ∷ ls; base = b }) s (variable_place x s) (eval_all types es s) ≡ Some m → IsFitMade p points i s MayReturn m
    array_fit n ls b m type h is =
        let t : ExprType = record { layers = ls; base = b } in
        let vs = then_there (λ (us : List Value). option_and_then (listed_in (layer.Array n ∷ ls) b s.memory us) (variable_place x s)) (eval_all types es s) m is in
        let q = then_there (listed_in (layer.Array n ∷ ls) b s.memory vs.value) (variable_place x s) m vs.same in
        let ws = then_there (λ (us : List Value). storing_all s.memory n us (list_stores q.value t 0 n us)) (all_as t vs.value) m q.same in
        let scalar = and_parts (is_scalar t) (not (nat_lt n (length es)) && list_all (λ (e : Expr). takes d e t) es) h in
        let fits = (and_parts (not (nat_lt n (length es))) (list_all (λ (e : Expr). takes d e t) es) scalar.1).1 in
        let block = map_there whole (s.frame x) q.value q.there in
        let o = name_object p order points s typed x q.value q.there in
        let origin : slice_get s.origins q.value.block ≡ Some (OfVariable x) = ap (λ (r : Place). slice_get s.origins r.block) (sym block.same) ∙ typed.named x block.value block.there in
        let k : IsStorePlace (whole_places x) (record { layers = layer.Array n ∷ ls; base = b }) q.value = record { type_is = o.type_is ∙ ap Some type; origin = o.origin; origin_is = o.origin_is; among = o.among } in
        let named : o.origin ≡ OfVariable x = some_same (sym o.origin_is ∙ origin) in
        let none : q.value.path ≡ [] = ap (λ (r : Place). r.path) (sym block.same) in
        let l = item_location x n ls b q.value k named none in
        let among = item_among x n ls b q.value k named none in
        let all : 0 + n ≡ n = omega arith in
        let items = list_items t x (points l) es vs.value ws.value (λ a c l2 f. pairs a c l l2 (into_elements es a c among) f) fits taken vs.there ws.there in
        subst (IsFitMade p points i s MayReturn) (stored_all_there s.memory n ws.value (list_stores q.value t 0 n ws.value) m ws.same)
        (record { sites = λ r e. none_there e; stores = items_fit x n ls b q.value k named none 0 n ws.value all scalar.0 items; returns = λ u e. none_there e })
      where
        into_elements : {l : Location} (us : List Expr) (a : Pointing) → IsIn (listed_pointings p points x us) a → part_of p part.Element (whole_places x) l ≡ true → a.into l ≡ true
        into_elements [] a c among = absurd c
        into_elements {l} (u ∷ us) a (inl same) among = subst (λ (z : Pointing). z.into l ≡ true) same among
        into_elements (u ∷ us) a (inr c) among = into_elements us a c among

    items_made : (ls : List Layer) (b : Base) (m : Made) → type_of_variable p x ≡ record { layers = ls; base = b } → begins_with d (init.Items es) (record { layers = ls; base = b }) ≡ true
        → listed (record { layers = ls; base = b }) s (variable_place x s) (eval_all types es s) ≡ Some m → IsFitMade p points i s MayReturn m
    items_made [] b m type h is = absurd (false≢true h)
    items_made (layer.Pointer ∷ ls) b m type h is = absurd (false≢true h)
    items_made (layer.Array n ∷ ls) b m type h is = array_fit n ls b m type h is

  pub begun_fit : (i x : ℕ) (z : Init) → ((a : Pointing) → IsIn (init_pointings p points x z) a → Pairs a.into a.from) → begins d x z ≡ true → Taken (init_takes p z) → (m : Made) → begun_with types x z s ≡ Some m → IsFitMade p points i s MayReturn m
  begun_fit i x init.None pairs h taken m is = none_there is
  begun_fit i x (init.One e) pairs h taken m is =
      let t = holds_there (begins_with d (init.One e)) (variable_shape d x) h in
      let k = and_parts (is_scalar t.0) (takes d e t.0) t.2 in
      expr_fit i (whole_places x) e (pairs (pointing (whole_places x) (expr_points p points e)) (inl refl)) taken t.0 (type_of_variable p x) (variable_place x s) m (variable_type p x t.0 t.1) k.1 (λ q at_. variable_at x t.0 q t.1 at_) is
  begun_fit i x (init.Items es) pairs h taken m is =
      let t = holds_there (begins_with d (init.Items es)) (variable_shape d x) h in
      let type = variable_type p x t.0 t.1 in
      items_made i x es pairs taken t.0.layers t.0.base m type t.2 (ap (λ (u : ExprType). listed u s (variable_place x s) (eval_all types es s)) (sym type) ∙ is)

  -- ---- malloc

  module _ (i : ℕ) (to : Target) (n : Amount) (pairs : Pairs (target_places p points to) (same_location (site i))) (taken : Taken (target_takes p to)) (heap : IsIn (function_heaps p p.functions) (record { id = i; elements = pointee (target_shape p to) })) where
    abbrev begun_at : Request → State
    begun_at r = begun_state p points i s (Some r)

    -- the pointer to the first object leads to the site
    first_leads : (t o : ExprType) (count : ℕ) (into : Places) → target_of t ≡ Some o → into (site i) ≡ true → IsValue p (begun_at (record { shape = o; count = count })) t into (next_block s)
    first_leads t o count into aims at_ = record {
      whole = array_of count o;
      whole_is = ap (option_and_then (λ (b : Block). option_map (λ (u : Subobject). u.type) (Some (record { type = b.shape; before = 0 })))) (get_last s.memory.blocks (unwritten s.memory.structs (array_of count o) Allocated));
      target_is = aims;
      origin = OfStatement i;
      origin_is = subst (λ k. slice_get (s.origins ++ OfStatement i ∷ []) k ≡ Some (OfStatement i)) typed.tracked (get_last s.origins (OfStatement i));
      among = at_;
      seen = refl;
    }

    module _ (t o : ExprType) (count : ℕ) (aims : target_of t ≡ Some o) (site_is : IsSiteBlock p i (array_of count o)) where
      abbrev request : Request
      request = record { shape = o; count = count }

      later : IsLater s (begun_at request)
      later = request_later p points i s typed (Some request)

      -- the store of the pointer, with the block that begins
      stored_pointer : (u : ExprType) (q : Place) (w : Value) (made_ m : Made) (k : IsStorePlace (target_places p points to) t q) → u ≡ t → as_type u (next_block s) ≡ Some w → storing q w ≡ made_ → beginning o count made_ ≡ m → IsFitMade p points i s MayReturn m
      stored_pointer u q w made_ m k type converted same all =
          let l = location_in k.origin q.path in
          let is : To (record { block = length s.memory.blocks; path = []; index = 0 }) ≡ w = kept (is_pointer t) (ap (λ (z : ExprType). as_type z (next_block s)) (sym type) ∙ converted) in
          subst (IsFitMade p points i s MayReturn) (ap (beginning o count) same ∙ all)
          (record {
            sites = λ r e. subst (λ (z : Request). IsSiteBlock p i (array_of z.count z.shape)) (some_same e) site_is;
            stores = (
              record {
                type = t;
                type_is = type_later s (begun_at request) later q t k.type_is;
                origin = k.origin;
                origin_is = later.origins q.block k.origin k.origin_is;
                value_is = subst (IsValue p (begun_at request) t (points l)) is (first_leads t o count (points l) aims (pairs l (site i) k.among (location_itself (site i))));
              },
              tt,
            );
            returns = λ v e. none_there e;
          })
        where
          kept : (b : Bool) → pointer_as b (next_block s) ≡ Some w → next_block s ≡ w
          kept true e = some_same e
          kept false e = none_there e

      set_pointer : (u : ExprType) (place_ : Option Place) (x m : Made) → u ≡ t → ((q : Place) → place_ ≡ Some q → IsStorePlace (target_places p points to) t q) → assigned u (writable s place_) (Some (next_block s)) ≡ Some x → beginning o count x ≡ m → IsFitMade p points i s MayReturn m
      set_pointer u place_ x m type at_ e all =
          let k = assigned_there u (writable s place_) (Some (next_block s)) x e in
          stored_pointer u k.place k.stored x m (at_ k.place (writable_there s place_ k.place k.place_is)) type (ap (as_type u) (some_same k.value_is) ∙ k.stored_is) k.same all

    site_block : (t o : ExprType) (count : ℕ) → target_shape p to ≡ t → target_of t ≡ Some o → IsSiteBlock p i (array_of count o)
    site_block t o count type aims =
        let itself = pointer_value t (ap is_some aims) in
        let same : pointee (target_shape p to) ≡ o = ap pointee type ∙ ap (λ (z : Option ExprType). unwrap_or z void) (ap target_of itself ∙ aims) in
        record {
          count = count;
          heap = record { id = i; elements = pointee (target_shape p to) };
          member = contains_of_in (function_heaps p p.functions) (record { id = i; elements = pointee (target_shape p to) }) heap;
          id_is = refl;
          shape_is = ap (array_of count) (sym same);
        }

  allocated_fit : (i : ℕ) (to : Target) (n : Amount) → Pairs (target_places p points to) (same_location (site i)) → Taken (target_takes p to) → IsIn (function_heaps p p.functions) (record { id = i; elements = pointee (target_shape p to) }) → allocates d to n ≡ true
      → (m : Made) → made types (Allocates to n) s ≡ Some m → IsFitMade p points i s MayReturn m
  allocated_fit i to n pairs taken heap h m is =
      let x = given types to (next_block s) s in
      let one = then_there (λ (o : ExprType). option_and_then (begun_for x o) (option_and_then granted (asked_count types n s))) (option_and_then target_of (target_type types to)) m is in
      let two = then_there (begun_for x one.value) (option_and_then granted (asked_count types n s)) m one.same in
      let three = map_there (beginning one.value two.value) x m two.same in
      by_target to pairs taken heap h one.value two.value one.there three.value three.there three.same
    where
      by_target : (to : Target) → Pairs (target_places p points to) (same_location (site i)) → Taken (target_takes p to) → IsIn (function_heaps p p.functions) (record { id = i; elements = pointee (target_shape p to) }) → allocates d to n ≡ true
          → (o : ExprType) (count : ℕ) → option_and_then target_of (target_type types to) ≡ Some o → (x : Made) → given types to (next_block s) s ≡ Some x → beginning o count x ≡ m → IsFitMade p points i s MayReturn m
      by_target target.None pairs taken heap h o count aims x e all = none_there aims
      by_target (target.Place e) pairs taken heap h o count aims x given_ all =
          let k = and_parts (passes d is_left_side e) (passes d (λ (y : Operand). holds_objects d n y.shape) e) h in
          let y = operand_there d is_left_side e k.0 in
          let type = type_at_operand e y.0 y.1 in
          let objects : target_of y.0.shape ≡ Some o = ap target_of (sym type) ∙ aims in
          set_pointer i (target.Place e) n pairs taken heap y.0.shape o count objects (site_block i (target.Place e) n pairs taken heap y.0.shape o count (shapes e y.0 y.1) objects) (type_of types e) (place types e s) x m type (λ q at_. left_place e y.0 q y.1 taken at_) given_ all
      by_target (target.Declared v) pairs taken heap h o count aims x given_ all =
          let t = holds_there (holds_objects d n) (variable_shape d v) h in
          let type = variable_type p v t.0 t.1 in
          let objects : target_of t.0 ≡ Some o = ap target_of (sym type) ∙ aims in
          set_pointer i (target.Declared v) n pairs taken heap t.0 o count objects (site_block i (target.Declared v) n pairs taken heap t.0 o count type objects) (type_of_variable p v) (variable_place v s) x m type (λ q at_. variable_at v t.0 q t.1 at_) given_ all

  -- ---- acts

  freed_fit : (i : ℕ) (v : Value) (m : Made) → freed_at s.memory v ≡ Some m → IsFitMade p points i s MayReturn m
  freed_fit i (Number z) m e = none_there e
  freed_fit i Null m e = subst (IsFitMade p points i s MayReturn) (some_same e) (shown_fit i (shows (Null ∷ []) []) refl refl (λ u e. none_there e))
  freed_fit i (To q) m e =
      by_test (can_free s.memory q) e
      (λ is same. subst (IsFitMade p points i s MayReturn) (some_same same) (shown_fit i (record (shows (To q ∷ []) []) { freed = Some q.block }) refl refl (λ u k. none_there k)))
      (λ is none. none_there none)

  mapped_fit : {V : Type 0} (i : ℕ) (g : V → Made) (o : Option V) (m : Made) → ((v : V) → (g v).begun ≡ None) → ((v : V) → (g v).stores ≡ []) → ((v : V) → (g v).returned ≡ None) → option_map g o ≡ Some m → IsFitMade p points i s MayReturn m
  mapped_fit i g o m none empty silent e =
      let k = map_there g o m e in
      subst (IsFitMade p points i s MayReturn) k.same (shown_fit i (g k.value) (none k.value) (empty k.value) (λ u r. none_there (sym (silent k.value) ∙ r)))

  taking_fit : (i : ℕ) (x m : Made) → taking x ≡ m → IsFitMade p points i s MayReturn x → IsFitMade p points i s MayReturn m
  taking_fit i x m same h = subst (IsFitMade p points i s MayReturn) same (record { sites = h.sites; stores = h.stores; returns = h.returns })

  module _ (f i : ℕ) (c : Option CType) (same : result ≡ option_map shape_of c) (answers : (v : Value) (t : ExprType) → option_map shape_of c ≡ Some t → IsValue p s t (points (result_of f)) v → MayReturn v) where
    return_given : (e : Expr) → ((z : Pointing) → IsIn (returned_pointings p points f (Some e)) z → Pairs z.into z.from) → Taken (expr_takes p e) → returns d c (Some e) ≡ true → (v : Value) → option_and_then (as_result result) (eval types e s) ≡ Some v → MayReturn v
    return_given e pairs taken h v is =
        let k = holds_there (λ (z : CType). takes d e (shape_of z)) c h in
        let t = shape_of k.0 in
        let y = operand_there d (is_assignable t) e k.2 in
        let u = then_there (as_result result) (eval types e s) v is in
        let there : option_map shape_of c ≡ Some t = ap (option_map shape_of) k.1 in
        let converted : as_type t u.value ≡ Some v = sym (ap (λ (z : Option ExprType). as_result z u.value) (same ∙ there)) ∙ u.same in
        answers v t there
        (assigned_value p s t (points (result_of f)) y.0 (expr_points p points e) (λ l. pairs (pointing (same_location (result_of f)) (expr_points p points e)) (inl refl) (result_of f) l (location_itself (result_of f))) y.2 u.value v (value_at e y.0 u.value y.1 taken u.there) (null_at e y.0 u.value y.1 u.there) converted)

    result_fit : (o : Option Expr) → ((z : Pointing) → IsIn (returned_pointings p points f o) z → Pairs z.into z.from) → Taken (maybe_takes p o) → returns d c o ≡ true → (m : Made) → shown_result types o s ≡ Some m → IsFitMade p points i s MayReturn m
    result_fit None pairs taken h m e = subst (IsFitMade p points i s MayReturn) (some_same e) (shown_fit i (shows [] []) refl refl (λ u k. none_there k))
    result_fit (Some e) pairs taken h m is =
        let k = map_there returning (option_and_then (as_result result) (eval types e s)) m is in
        subst (IsFitMade p points i s MayReturn) k.same
        (shown_fit i (returning k.value) refl refl (λ u r. subst MayReturn (some_same r) (return_given e pairs taken h k.value k.there)))

    -- what an act of a function makes fits, where types fit in the act, its pointings hold of the relation, and the addresses that it
    -- takes are taken
    pub act_fit : (a : Act) → ((z : Pointing) → IsIn (act_pointings p points f i a) z → Pairs z.into z.from) → Taken (act_takes p a) → ((h : Heap) → IsIn (act_heaps p i a) h → IsIn (function_heaps p p.functions) h) → act_fits d c a ≡ true
        → (m : Made) → made types a s ≡ Some m → IsFitMade p points i s MayReturn m
    act_fit (Begins x z) pairs taken heaps h m e = begun_fit i x z pairs h taken m e
    act_fit (Sets left op right) pairs taken heaps h m e =
        sets_fit i left op right (pairs (pointing (expr_places p points left) (expr_points p points right)) (inl refl)) h (λ x u. taken x (or_left (left_takes p left x) (expr_takes p right x) u)) (λ x u. taken x (or_right (left_takes p left x) (expr_takes p right x) u)) m e
    act_fit (Bumps left up) pairs taken heaps h m e = bumps_fit i left up h taken m e
    act_fit (Fetches to) pairs taken heaps h m e =
        let k = map_there taking (given types to (Number (next_byte s.unread)) s) m e in
        taking_fit i k.value m k.same (given_fit i to no_places (λ l n into none. absurd (false≢true none)) (a_value (integer Int)) (Number (next_byte s.unread)) refl (λ null. absurd (false≢true null)) h taken k.value k.there)
    act_fit (Writes e) pairs taken heaps h m is = mapped_fit i (λ (v : Value). put_out (convert (tested v) UChar)) (eval types e s) m (λ v. refl) (λ v. refl) (λ v. refl) is
    act_fit (Prints format args) pairs taken heaps h m is = mapped_fit i (printed_all format) (eval_all types args s) m (λ v. refl) (λ v. refl) (λ v. refl) is
    act_fit (Allocates to n) pairs taken heaps h m is =
        allocated_fit i to n (pairs (pointing (target_places p points to) (same_location (site i))) (inl refl)) (λ x u. taken x (or_left (target_takes p to x) (amount_takes p n x) u)) (heaps (record { id = i; elements = pointee (target_shape p to) }) (inl refl)) h m is
    act_fit (Frees e) pairs taken heaps h m is = let k = then_there (freed_at s.memory) (eval types e s) m is in freed_fit i k.value m k.same
    act_fit (Returns e) pairs taken heaps h m is = result_fit e pairs taken h m is
    act_fit (Tests e) pairs taken heaps h m is = mapped_fit i (λ (v : Value). shows (Number (tested v) ∷ []) []) (eval types e s) m (λ v. refl) (λ v. refl) (λ v. refl) is
