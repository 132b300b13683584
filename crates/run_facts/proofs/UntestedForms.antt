-- In a typed state the tests of types let each object through, form by form.
use Rattle.std.proofs.Common.{◌≡◌, ℕ, ℤ, List, [], ◌∷◌, Option, Some, None, Bool, true, false, ◌||◌, refl, sym, ap, ap₂, ◌∙◌, subst}
use Rattle.std.specs.Prelude.{option_map, option_and_then, unwrap_or, if◌then◌else◌}
use Rattle.std.specs.Option.{option_map_or}
use Rattle.std.proofs.lemmas.Bool.{false≢true, and_parts, or_left, or_right}
use Rattle.c_arith.specs.declared.operators.BinaryOp.TheVariants.{Add}
use Rattle.c_language.proofs.Options.{none_there, some_same, map_there, then_there}
use Rattle.c_tree.specs.declared.expr.Expr.{Expr, map-Expr, roll-Expr, fold-roll-Expr}
use Rattle.c_tree.specs.declared.expr.Expr.TheOpen.{Expr-F}
use Rattle.c_tree.specs.declared.program.Program.{Program}
use Rattle.c_tree.proofs.Trees.{ExprParts, expr_layer, of_every_expr}
use Rattle.c_language.specs.ConstantEvaluation.{operand_type}
use Rattle.c_language.specs.DeclaredTypes.{void}
use Rattle.c_language.specs.declared.expr_type.Base.{Base}
use Rattle.c_language.specs.declared.expr_type.Layer.{Layer}
use Rattle.c_language.specs.declared.expr_type.Layer.TheVariants as layer
use Rattle.c_language.specs.declared.expr_type.ExprType.{ExprType}
use Rattle.c_language.specs.declared.expr_type.Operand.{Operand}
use Rattle.c_language.specs.ExprTypes.{a_place, a_value, given, value_type, is_integer, is_pointer, is_array, target_of, same_type, unary_result, binary_result, logical_result, choose_result, cast_result, pointed, indexed, address_result}
use Rattle.c_language.specs.TreeTypes.{typing_of, int_type, pointee, typed_step}
use Rattle.c_meaning.specs.declared.value.Place.{Place}
use Rattle.c_meaning.specs.declared.value.Pointer.{Pointer}
use Rattle.c_meaning.specs.declared.value.Value.{Value}
use Rattle.c_meaning.specs.declared.value.Value.TheVariants.{Number, Null, To}
use Rattle.c_meaning.specs.Memory.{Memory}
use Rattle.c_meaning.specs.Pointers.{type_at, has_type, if_typed, whole_of, start, designated, moved}
use Rattle.c_meaning.specs.Pointers as pointers
use Rattle.c_meaning.specs.Values.{Types, State, Meant, owner_of, at_operands, unary_value, binary_value, and_both, or_both, chosen_value, as_type, object_value, gives, an_object, a_part, meant_step, meant}
use Rattle.c_meaning.specs.Values as values
use Rattle.dep_model.specs.Denoted.{TargetsOf, denoted}
use Rattle.dep_model.specs.Designated.{Designated, is_array_place, value_takes, takes_either, an_element, designated_step}
use Rattle.dep_model.specs.Designated as designate
use Rattle.dep_model.specs.LocationLists.{AreStructsInOrder}
use Rattle.run_facts.specs.DenotedCells.{AreTaken}
use Rattle.run_facts.specs.PointerLocations.{item_type}
use Rattle.run_facts.specs.ReadCells.{watched}
use Rattle.run_facts.specs.TypedStates.{IsTypedState}
use Rattle.run_facts.specs.UntestedMeanings.{pointed_by, member_in, untested_step, untested, AreSame}
use Rattle.run_facts.proofs.DenotedForms.{form_is}
use Rattle.run_facts.proofs.ExprsDenoted.{AreShapes, of_one, of_two, object_target, pointer_of, selected_member}
use Rattle.run_facts.proofs.ObjectForms.{both_there}
use Rattle.run_facts.proofs.PointedObjects.{pointed_item, pointer_moved}
use Rattle.run_facts.proofs.SameValues.{means_it}
use Rattle.run_facts.proofs.TypedActs.{operands_move, denoted_at, shape_at, type_at_operand, value_at, left_object}
use Rattle.run_facts.proofs.TypeTests.{type_itself}
use Rattle.typed_programs.specs.TreeOperands.{Declarations, declarations, selected, tree_operand_step, operand_of}

-- ---- pointers

-- a pointer is in an array of this type, or in a single object of it
pub record PointsInto (m : Memory) (t : ExprType) (q : Pointer) : Type 0 where
  pub whole : ExprType
  pub whole_is : type_at m (whole_of q) ≡ Some whole
  pub item_is : item_type whole ≡ t

test_passed : (m : Memory) (t : ExprType) (r : Place) → type_at m r ≡ Some t → if_typed m t r ≡ Some r
test_passed m t r e =
    let passed : has_type m t r ≡ true = ap (λ (o : Option ExprType). option_map_or (same_type t) o false) e ∙ type_itself t in
    ap (λ (b : Bool). if b then Some r else None) passed

module _ (m : Memory) (t : ExprType) where
  pointed_same : (q : Pointer) → PointsInto m t q → designated m t (To q) ≡ pointed_by m (To q)
  pointed_same q h = by_place (pointers.pointed m q) refl
    where
      by_place : (o : Option Place) → pointers.pointed m q ≡ o → option_and_then (if_typed m t) o ≡ o
      by_place None is = refl
      by_place (Some r) is = test_passed m t r ((pointed_item m q h.whole r h.whole_is is).type_is ∙ ap Some h.item_is)

  value_same : (v : Value) → ((q : Pointer) → v ≡ To q → PointsInto m t q) → designated m t v ≡ pointed_by m v
  value_same (Number z) h = refl
  value_same Null h = refl
  value_same (To q) h = pointed_same q (h q refl)

  -- the test lets the object through to which such a value points
  pub found_same : (o : Option Value) → ((q : Pointer) → o ≡ Some (To q) → PointsInto m t q) → option_and_then (designated m t) o ≡ option_and_then (pointed_by m) o
  found_same None h = refl
  found_same (Some v) h = value_same v (λ q is. h q (ap Some is))

  pub there_same : (o : Option Place) → ((r : Place) → o ≡ Some r → type_at m r ≡ Some t) → option_and_then (if_typed m t) o ≡ o
  there_same None h = refl
  there_same (Some r) h = test_passed m t r (h r refl)

-- an array's elements are of what it turns into a pointer to
element_type : (ls : List Layer) (b : Base) (u : ExprType) → is_array (record { layers = ls; base = b }) ≡ true → target_of (value_type (record { layers = ls; base = b })) ≡ Some u → item_type (record { layers = ls; base = b }) ≡ u
element_type [] b u array e = none_there e
element_type (layer.Pointer ∷ ls) b u array e = absurd (false≢true array)
element_type (layer.Array n ∷ ls) b u array e = some_same e

not_none : {A : Type 0} (q : Pointer) (o : Option Value) → o ≡ None → o ≡ Some (To q) → A
not_none q o none some = none_there (sym none ∙ some)

-- ---- moved pointers

record IsMovedFrom (m : Memory) (x : Value) (q : Pointer) : Type 0 where
  old : Pointer
  value_is : x ≡ To old
  whole_same : whole_of q ≡ whole_of old

moved_from : (m : Memory) (z : ℤ) (x : Value) (q : Pointer) → moved m z x ≡ Some (To q) → IsMovedFrom m x q
moved_from m z (Number n) q e = none_there e
moved_from m z Null q e = none_there e
moved_from m z (To p) q e =
    let k = pointer_moved m p z (To q) e in
    let same : q ≡ record { block = p.block; path = p.path; index = k.index } = pointer_same q (record { block = p.block; path = p.path; index = k.index }) k.value_is in
    record { old = p; value_is = refl; whole_same = ap whole_of same }
  where
    pointer_in : Pointer → Value → Pointer
    pointer_in p (Number n) = p
    pointer_in p Null = p
    pointer_in p (To q) = q

    pointer_same : (a b : Pointer) → To a ≡ To b → a ≡ b
    pointer_same a b e = ap (pointer_in a) e

module _ (p : Program) (order : AreStructsInOrder p) (shapes : AreShapes p) (points : TargetsOf) (s : State) (typed : IsTypedState p points s) (result : Option ExprType) where
  abbrev types : Types
  types = record { typing = typing_of p; result = result }

  abbrev d : Declarations
  d = declarations p

  abbrev un : Expr → Meant
  un = untested types

  abbrev me : Expr → Meant
  me = meant types

  abbrev of : Expr → Designated
  of = designate.designated p

  abbrev Taken : (ℕ → Bool) → Type 0
  Taken taken = AreTaken p s taken

  abbrev Never : Value → Type 0
  Never v = ⊥

  -- where the addresses that it takes to find its object are taken, an operand means the same
  abbrev Whole : Expr → Type 0
  Whole e = (x : Operand) → operand_of d e ≡ Some x → Taken (of e).takes → AreSame s (un e) (me e)

  abbrev layer_of : ExprParts Whole → Expr-F Expr
  layer_of = expr_layer Whole

  abbrev LayerSame : Expr-F Expr → Type 0
  LayerSame z = AreSame s (untested_step types (map-Expr Expr Meant un z)) (meant_step types (map-Expr Expr Meant me z))

  abbrev takes_of : Expr-F Expr → ℕ → Bool
  takes_of z = (designated_step p (map-Expr Expr Designated of z)).takes

  -- ---- what is made of the same

  gives_same : (t u : ExprType) (f g : State → Option Value) → t ≡ u → f s ≡ g s → AreSame s (gives t f) (gives u g)
  gives_same t u f g type value = record { type_is = type; place_is = refl; value_is = value; address_is = refl }

  object_same : (t u : ExprType) (f g : State → Option Place) (k l : State → Option Value) → t ≡ u → f s ≡ g s → k s ≡ l s → AreSame s (an_object t f k) (an_object u g l)
  object_same t u f g k l type place address =
      record { type_is = type; place_is = place; value_is = ap₂ (λ (w : ExprType) (o : Option Place). option_and_then (object_value w s.memory) o) type place; address_is = address }

  part_same : (t : ExprType) (f g : State → Option Place) → f s ≡ g s → AreSame s (a_part t f) (a_part t g)
  part_same t f g place = object_same t t f g (λ u. option_map start (f u)) (λ u. option_map start (g u)) refl place (ap (option_map start) place)

  abbrev step : Expr-F ExprType → ExprType
  step z = typed_step types.typing z

  -- ---- what parts take

  found_of : (e : Expr) → Taken (value_takes (of e)) → Taken (of e).takes
  found_of e taken x h = taken x (or_left ((of e).takes x) _ h)

  first_of : (a b : Expr) → Taken (takes_either (of a) (of b)) → Taken (value_takes (of a))
  first_of a b taken x h = taken x (or_left (value_takes (of a) x) (value_takes (of b) x) h)

  second_of : (a b : Expr) → Taken (takes_either (of a) (of b)) → Taken (value_takes (of b))
  second_of a b taken x h = taken x (or_right (value_takes (of a) x) (value_takes (of b) x) h)

  -- ---- pointers to objects

  -- what a pointer expression points to
  led : (e : Expr) (x : Operand) (t : ExprType) → operand_of d e ≡ Some x → pointed x ≡ Some t → Taken (value_takes (of e)) → (q : Pointer) → (me e).value s ≡ Some (To q) → PointsInto s.memory t q
  led e x t is aims taken q value =
      let h = value_at p order shapes points s typed result Never e x (To q) is taken value in
      record { whole = h.whole; whole_is = h.whole_is; item_is = some_same (sym h.target_is ∙ object_target (value_type x.shape) t aims) }

  pointee_is : (e : Expr) (x : Operand) (t : ExprType) → operand_of d e ≡ Some x → pointed x ≡ Some t → pointee (me e).type ≡ t
  pointee_is e x t is aims =
      ap pointee (type_at_operand p order shapes points s typed result Never e x is) ∙ ap (λ (o : Option ExprType). unwrap_or o void) (object_target (value_type x.shape) t aims)

  -- the first element of an array, or what a pointer points to
  module _ (a i : Expr) (x y : Operand) (t : ExprType) (a_is : operand_of d a ≡ Some x) (aims : pointed x ≡ Some t) where
    array_led : is_array_place (of a) ≡ true → Taken (of a).takes → (q : Pointer) → (me a).value s ≡ Some (To q) → PointsInto s.memory t q
    array_led array taken q value =
        let h = denoted_at p order shapes points s typed result Never a x a_is in
        let shape = shape_at p order shapes points s typed result Never a x a_is in
        let is : is_array_place (denoted p points a).form ≡ true = ap is_array_place (form_is p points a) ∙ array in
        let starts : option_map start ((watched types a).meant.place s) ≡ Some (To q) = sym (h.starts is) ∙ (ap (λ (m : Meant). m.value s) (means_it types a) ∙ value) in
        let r = map_there start ((watched types a).meant.place s) (To q) starts in
        let o = h.object (subst (λ (k : Designated). Taken k.takes) (sym (form_is p points a)) taken) r.value r.there in
        let whole : whole_of q ≡ r.value = ap (place_in r.value) (sym r.same) in
        let array_type : is_array x.shape ≡ true = ap is_array (sym shape) ∙ (and_parts (denoted p points a).form.is_place (is_array (denoted p points a).form.type) is).1 in
        record {
          whole = x.shape;
          whole_is = ap (type_at s.memory) whole ∙ (o.type_is ∙ ap Some shape);
          item_is = element_type x.shape.layers x.shape.base t array_type (object_target (value_type x.shape) t aims);
        }
      where
        place_in : Place → Value → Place
        place_in r (Number z) = r
        place_in r Null = r
        place_in r (To q) = whole_of q

    -- the pointer to an element, or moved from what is pointed to
    item_led : ((q : Pointer) → (me a).value s ≡ Some (To q) → PointsInto s.memory t q) → (q : Pointer) → values.indexed (me a) (me i) s ≡ Some (To q) → PointsInto s.memory t q
    item_led old q e =
        let ta = (me a).type in
        let ti = (me i).type in
        let g = at_operands (is_pointer (value_type ta)) (is_pointer (value_type ti)) Add (operand_type Add (int_type ta) (int_type ti)) s.memory in
        let b = both_there g ((me a).value s) ((me i).value s) (To q) e in
        let pointer : is_pointer (value_type ta) ≡ true = ap (λ (z : ExprType). is_pointer (value_type z)) (type_at_operand p order shapes points s typed result Never a x a_is) ∙ pointer_of (value_type x.shape) t (object_target (value_type x.shape) t aims) in
        let n = operands_move Add (is_pointer (value_type ta)) (is_pointer (value_type ti)) (operand_type Add (int_type ta) (int_type ti)) s.memory b.0 b.1.0 q pointer b.1.1.1.1 in
        let k = moved_from s.memory n.0 b.0 q n.1 in
        let h = old k.old (b.1.1.0 ∙ ap Some k.value_is) in
        record { whole = h.whole; whole_is = ap (type_at s.memory) k.whole_same ∙ h.whole_is; item_is = h.item_is }

  -- ---- forms

  index_same : (a i : Expr) (x y : Operand) (t : ExprType) → operand_of d a ≡ Some x → operand_of d i ≡ Some y → pointed x ≡ Some t → Whole a → Whole i → (array : Bool) → is_array_place (of a) ≡ array
      → Taken (if array then (λ (z : ℕ). (of a).takes z || value_takes (of i) z) else takes_either (of a) (of i)) → LayerSame (Expr-F.Index a i)
  index_same a i x y t a_is i_is aims ha hi array is taken =
      let parts = by_array array is taken in
      let sa = ha x a_is parts.0 in
      let si = hi y i_is parts.1.0 in
      let pointer : values.indexed (un a) (un i) s ≡ values.indexed (me a) (me i) s =
      ap₂ (λ (k l : ExprType). binary_value Add k l s.memory ((un a).value s) ((un i).value s)) sa.type_is si.type_is ∙ ap₂ (binary_value Add (me a).type (me i).type s.memory) sa.value_is si.value_is in
      let same = pointee_is a x t a_is aims in
      let found = found_same s.memory t (values.indexed (me a) (me i) s) (item_led a i x y t a_is aims parts.1.1) in
      object_same (pointee (un a).type) (pointee (me a).type) (λ u. option_and_then (pointed_by u.memory) (values.indexed (un a) (un i) u)) (λ u. option_and_then (designated u.memory (pointee (me a).type)) (values.indexed (me a) (me i) u)) (values.indexed (un a) (un i)) (values.indexed (me a) (me i))
      (ap pointee sa.type_is)
      (ap (option_and_then (pointed_by s.memory)) pointer ∙ (sym found ∙ ap (λ (z : ExprType). option_and_then (designated s.memory z) (values.indexed (me a) (me i) s)) (sym same)))
      pointer
    where
      by_array : (b : Bool) → is_array_place (of a) ≡ b → Taken (if b then (λ (z : ℕ). (of a).takes z || value_takes (of i) z) else takes_either (of a) (of i))
          → Taken (of a).takes × (Taken (of i).takes × ((q : Pointer) → (me a).value s ≡ Some (To q) → PointsInto s.memory t q))
      by_array true e h =
          let left : Taken (of a).takes = λ z u. h z (or_left ((of a).takes z) (value_takes (of i) z) u) in
          (left, (found_of i (λ z u. h z (or_right ((of a).takes z) (value_takes (of i) z) u)), array_led a i x y t a_is aims e left))
      by_array false e h =
          let left = first_of a i h in (found_of a left, (found_of i (second_of a i h), led a x t a_is aims left))

  takes_either_way : (b : Bool) (t : ExprType) (a i : Designated) → is_array_place a ≡ b → (z : ℕ) → (if b then (λ (w : ℕ). a.takes w || value_takes i w) else takes_either a i) z ≡ true → (if is_array_place a then designate.a_place t a.root None (λ w. a.takes w || value_takes i w) else designate.a_place t None None (takes_either a i)).takes z ≡ true
  takes_either_way true t a i is z h = ap (λ (c : Bool). (if c then designate.a_place t a.root None (λ w. a.takes w || value_takes i w) else designate.a_place t None None (takes_either a i)).takes z) is ∙ h
  takes_either_way false t a i is z h = ap (λ (c : Bool). (if c then designate.a_place t a.root None (λ w. a.takes w || value_takes i w) else designate.a_place t None None (takes_either a i)).takes z) is ∙ h

  abbrev IsOperand : Expr-F Expr → Operand → Type 0
  IsOperand z x = tree_operand_step d (map-Expr Expr (Option Operand) (operand_of d) z) ≡ Some x

  layer_same : (y : ExprParts Whole) (x : Operand) → IsOperand (layer_of y) x → Taken (takes_of (layer_of y)) → LayerSame (layer_of y)
  layer_same (Expr-F.Constant text k v) x e taken = gives_same _ _ _ _ refl refl
  layer_same Expr-F.Null x e taken = gives_same _ _ _ _ refl refl
  layer_same Expr-F.Eof x e taken = gives_same _ _ _ _ refl refl
  layer_same (Expr-F.Variable v) x e taken = part_same _ _ _ refl
  layer_same (Expr-F.Unary op a) x e taken =
      let k = of_one (λ (y : Operand). unary_result op (value_type y.shape)) a_value (operand_of d a.0) x e in
      let h = a.1 k.first k.first_is (found_of a.0 taken) in
      gives_same _ _ _ _ (ap (λ (t : ExprType). step (Expr-F.Unary op t)) h.type_is) (ap₂ (unary_value op) h.type_is h.value_is)
  layer_same (Expr-F.Deref a) x e taken =
      let k = of_one pointed a_place (operand_of d a.0) x e in
      let h = a.1 k.first k.first_is (found_of a.0 taken) in
      let same = pointee_is a.0 k.first k.type k.first_is k.type_is in
      let found = found_same s.memory k.type ((me a.0).value s) (led a.0 k.first k.type k.first_is k.type_is taken) in
      object_same _ _ _ _ _ _ (ap pointee h.type_is)
      (ap (option_and_then (pointed_by s.memory)) h.value_is ∙ (sym found ∙ ap (λ (z : ExprType). option_and_then (designated s.memory z) ((me a.0).value s)) (sym same)))
      h.value_is
  layer_same (Expr-F.AddressOf a) x e taken =
      let k = of_one address_result a_value (operand_of d a.0) x e in
      let h = a.1 k.first k.first_is (λ z u. taken z (or_left ((of a.0).takes z) _ u)) in
      gives_same _ _ _ _ (ap (λ (t : ExprType). step (Expr-F.AddressOf t)) h.type_is) h.address_is
  layer_same (Expr-F.Binary op a b) x e taken =
      let k = of_two (binary_result op) a_value (operand_of d a.0) (operand_of d b.0) x e in
      let ha = a.1 k.first k.first_is (found_of a.0 (first_of a.0 b.0 taken)) in
      let hb = b.1 k.second k.second_is (found_of b.0 (second_of a.0 b.0 taken)) in
      gives_same _ _ _ _ (ap₂ (λ (t u : ExprType). step (Expr-F.Binary op t u)) ha.type_is hb.type_is)
      (ap₂ (λ (t u : ExprType). binary_value op t u s.memory ((un a.0).value s) ((un b.0).value s)) ha.type_is hb.type_is ∙ ap₂ (binary_value op (me a.0).type (me b.0).type s.memory) ha.value_is hb.value_is)
  layer_same (Expr-F.AndAlso a b) x e taken =
      let k = of_two logical_result a_value (operand_of d a.0) (operand_of d b.0) x e in
      let ha = a.1 k.first k.first_is (found_of a.0 (first_of a.0 b.0 taken)) in
      let hb = b.1 k.second k.second_is (found_of b.0 (second_of a.0 b.0 taken)) in
      gives_same _ _ _ _ refl (ap₂ and_both ha.value_is hb.value_is)
  layer_same (Expr-F.OrElse a b) x e taken =
      let k = of_two logical_result a_value (operand_of d a.0) (operand_of d b.0) x e in
      let ha = a.1 k.first k.first_is (found_of a.0 (first_of a.0 b.0 taken)) in
      let hb = b.1 k.second k.second_is (found_of b.0 (second_of a.0 b.0 taken)) in
      gives_same _ _ _ _ refl (ap₂ or_both ha.value_is hb.value_is)
  layer_same (Expr-F.Choose c a b) x e taken =
      let k = of_one (λ (u : Operand). option_and_then (λ (y : Operand). option_and_then (choose_result u y) (operand_of d b.0)) (operand_of d a.0)) a_value (operand_of d c.0) x e in
      let ka = then_there (λ (y : Operand). option_and_then (choose_result k.first y) (operand_of d b.0)) (operand_of d a.0) k.type k.type_is in
      let kb = then_there (choose_result k.first ka.value) (operand_of d b.0) k.type ka.same in
      let rest : Taken (takes_either (of a.0) (of b.0)) = λ z u. taken z (or_right (value_takes (of c.0) z) _ u) in
      let hc = c.1 k.first k.first_is (found_of c.0 (λ z u. taken z (or_left (value_takes (of c.0) z) _ u))) in
      let ha = a.1 ka.value ka.there (found_of a.0 (first_of a.0 b.0 rest)) in
      let hb = b.1 kb.value kb.there (found_of b.0 (second_of a.0 b.0 rest)) in
      let type : step (Expr-F.Choose (un c.0).type (un a.0).type (un b.0).type) ≡ step (Expr-F.Choose (me c.0).type (me a.0).type (me b.0).type) = ap₂ (λ (t u : ExprType). step (Expr-F.Choose (me c.0).type t u)) ha.type_is hb.type_is in
      gives_same _ _ _ _ type
      (ap₂ (λ (t : ExprType) (o : Option Value). chosen_value t o ((un a.0).value s) ((un b.0).value s)) type hc.value_is ∙ ap₂ (chosen_value (step (Expr-F.Choose (me c.0).type (me a.0).type (me b.0).type)) ((me c.0).value s)) ha.value_is hb.value_is)
  layer_same (Expr-F.Cast k a) x e taken =
      let o = of_one (cast_result k) a_value (operand_of d a.0) x e in
      let h = a.1 o.first o.first_is (found_of a.0 taken) in
      gives_same _ _ _ _ refl (ap (option_and_then (as_type (step (Expr-F.Cast k (me a.0).type)))) h.value_is)
  layer_same (Expr-F.Index a i) x e taken =
      let k = of_two indexed a_place (operand_of d a.0) (operand_of d i.0) x e in
      let t = then_there (λ (u : ExprType). given (is_integer k.second.shape) u) (pointed k.first) k.type k.type_is in
      index_same a.0 i.0 k.first k.second t.value k.first_is k.second_is t.there a.1 i.1 (is_array_place (of a.0)) refl (λ z u. taken z (takes_either_way (is_array_place (of a.0)) _ (of a.0) (of i.0) refl z u))
  layer_same (Expr-F.Member a m) x e taken =
      let k = of_one (λ (y : Operand). selected d m y.shape) a_place (operand_of d a.0) x e in
      let h = a.1 k.first k.first_is taken in
      let g = selected_member p m k.first.shape k.type k.type_is in
      let there = there_same s.memory (owner_of m) ((me a.0).place s) (λ r is. (left_object p order shapes points s typed result Never a.0 k.first r k.first_is taken is).type_is ∙ ap Some (shape_at p order shapes points s typed result Never a.0 k.first k.first_is ∙ g.struct_is)) in
      part_same _ _ _ (ap (member_in m) (h.place_is ∙ sym there))
  layer_same (Expr-F.Arrow a m) x e taken =
      let k = of_one (λ (y : Operand). option_and_then (selected d m) (pointed y)) a_place (operand_of d a.0) x e in
      let t = then_there (selected d m) (pointed k.first) k.type k.type_is in
      let g = selected_member p m t.value k.type t.same in
      let h = a.1 k.first k.first_is (found_of a.0 taken) in
      let found = found_same s.memory (owner_of m) ((me a.0).value s) (λ q is. subst (λ (u : ExprType). PointsInto s.memory u q) g.struct_is (led a.0 k.first t.value k.first_is t.there taken q is)) in
      part_same _ _ _ (ap (member_in m) (ap (option_and_then (pointed_by s.memory)) h.value_is ∙ sym found))
  layer_same (Expr-F.Paren a) x e taken = a.1 x e taken

  rolled : (y : ExprParts Whole) → Whole (roll-Expr (layer_of y))
  rolled y x h taken =
      let z = layer_of y in
      let operand : IsOperand z x = sym (fold-roll-Expr (Option Operand) (tree_operand_step d) z) ∙ h in
      let takes : Taken (takes_of z) = subst (λ (k : Designated). Taken k.takes) (fold-roll-Expr Designated (designated_step p) z) taken in
      subst (λ (u : Meant). AreSame s u (me (roll-Expr z))) (sym (fold-roll-Expr Meant (untested_step types) z))
      (subst (AreSame s (untested_step types (map-Expr Expr Meant un z))) (sym (fold-roll-Expr Meant (meant_step types) z)) (layer_same y x operand takes))

  -- an operand means the same with the tests of types and without them
  pub untested_same : (e : Expr) → Whole e
  untested_same = of_every_expr Whole rolled
