-- What is converted in a run fits: a value of integer type is a number, which each type takes, and a pointer is converted to a pointer type.
use Rattle.std.proofs.Common.{◌≡◌, ℕ, ℤ, pos, ◌⊎◌, inl, inr, List, [], ◌∷◌, ◌++◌, map, Bool, true, false, ◌&&◌, ◌||◌, Option, Some, None, refl, sym, ap, ◌∙◌, subst}
use Rattle.std.specs.Prelude.{if◌then◌else◌, is_some, option_map, option_and_then, Contains, not, nat_lt, length}
use Rattle.std.specs.List.{list_all}
use Rattle.std.specs.Option.{option_map_or, option_or}
use Rattle.std.proofs.lemmas.Bool.{false≢true, and_parts, or_left, or_right, or_cases}
use Rattle.c_tree.specs.declared.expr.Expr.{Expr, map-Expr, roll-Expr, out-Expr, fold-roll-Expr}
use Rattle.c_tree.specs.declared.expr.Expr.TheOpen.{Expr-F}
use Rattle.c_tree.specs.declared.expr.Expr.TheViews.{roll-out-Expr}
use Rattle.c_tree.specs.declared.program.Function.{Function}
use Rattle.c_tree.specs.declared.program.Init.{Init}
use Rattle.c_tree.specs.declared.program.Init.TheVariants as init
use Rattle.c_tree.specs.declared.program.Program.{Program}
use Rattle.c_tree.specs.declared.statement.Amount.{Amount}
use Rattle.c_tree.specs.declared.statement.Target.{Target}
use Rattle.c_tree.specs.declared.statement.Target.TheVariants as target
use Rattle.c_tree.specs.declared.types.CType.{CType}
use Rattle.c_arith.specs.declared.int_type.IntType.{IntType}
use Rattle.c_arith.specs.declared.int_type.IntType.TheVariants.{Int}
use Rattle.c_arith.specs.declared.operators.BinaryOp.{BinaryOp}
use Rattle.c_arith.specs.IntType.{common}
use Rattle.c_language.specs.ArrayRules.{element_of, count_of}
use Rattle.c_language.specs.Code.{Act, Begins, Sets, Bumps, Fetches, Writes, Prints, Allocates, Frees, Returns, Tests}
use Rattle.c_language.specs.ConstantEvaluation.{operand_type}
use Rattle.c_language.specs.DeclaredTypes.{integer}
use Rattle.c_language.specs.ExprRules.{holds_of}
use Rattle.c_language.specs.ExprTypes.{a_value, a_place, given, value_type, integer_of, is_integer, is_pointer, is_scalar, target_of, is_object_pointer, object_of, same_type, are_alike, is_assignable, common_result, chosen_result, choose_result, cast_result, unary_result, binary_result, logical_result, pointed, indexed, address_result}
use Rattle.c_language.specs.TreeTypes.{shape_of, typing_of, type_of_variable, int_type, tree_type_step}
use Rattle.c_language.specs.declared.expr_type.ExprType.{ExprType}
use Rattle.c_language.specs.declared.expr_type.Layer.{Layer}
use Rattle.c_language.specs.declared.expr_type.Layer.TheVariants as layer
use Rattle.c_language.specs.declared.expr_type.Base.{Base}
use Rattle.c_language.specs.declared.expr_type.Operand.{Operand}
use Rattle.c_language.proofs.Options.{none_there, some_same, then_there, map_there, both_there as both_parts}
use Rattle.c_meaning.specs.declared.value.Pointer.{Pointer}
use Rattle.c_meaning.specs.declared.value.Value.{Value}
use Rattle.c_meaning.specs.declared.value.Value.TheVariants.{Number, Null, To}
use Rattle.c_meaning.specs.Activations.{executable, types_in, result_at}
use Rattle.c_meaning.specs.Acts.{right_of, bumped, bump, next_byte, next_block}
use Rattle.c_meaning.specs.Steps.{Point, Waiting}
use Rattle.c_meaning.specs.Values.{Types, State, Meant, meant_step, as_type, pointer_as, number_in, at_numbers, at_operands, converted_binary, type_of, eval}
use Rattle.dep_model.specs.Denoted.{Places, TargetsOf, expr_points}
use Rattle.dep_model.specs.Designated.{Designated, designated, designated_step, is_array_place, value_takes, takes_either, an_element, a_place as seen_place}
use Rattle.dep_model.specs.Doings.{Doing, Does, Calls}
use Rattle.dep_model.specs.DoingEffects.{expr_takes, left_takes, act_takes, result_of, any_takes, doing_takes, is_taken, target_takes}
use Rattle.dep_model.specs.LocationLists.{AreStructsInOrder}
use Rattle.dep_model.specs.MayPoint.{IsPointsTo, parameters}
use Rattle.dep_model.proofs.Membership.{IsIn, in_of_contains, contains_of_in, in_either}
use Rattle.dep_model.proofs.StructOrder.{well_formed_in_order}
use Rattle.listed_graphs.proofs.PointsTo.{has_points_to}
use Rattle.run_facts.specs.DenotedCells.{AreTaken}
use Rattle.run_facts.specs.Effects.{back_in, next_doing}
use Rattle.run_facts.specs.NextExprs.{target_exprs, doing_values, doing_places}
use Rattle.run_facts.specs.PointerLocations.{item_type}
use Rattle.run_facts.specs.TypedStates.{IsValue, IsTypedState}
use Rattle.run_facts.proofs.AssignedValues.{not_both}
use Rattle.run_facts.proofs.CoveredRuns.{stands_next, doing_value, doing_place, receipt_used}
use Rattle.run_facts.proofs.ExprsDenoted.{AreShapes, of_one, of_two, given_true, no_pointer, object_pointer, or_there}
use Rattle.run_facts.proofs.ObjectForms.{both_there}
use Rattle.run_facts.proofs.TypedActs.{value_at, type_at_operand, variable_type}
use Rattle.run_facts.proofs.TypedParts.{StandsIn, stands_in, doing_taken, doing_fit, result_is}
use Rattle.run_facts.proofs.Points.{AreWaiting}
use Rattle.run_facts.proofs.TypedRuns.{Own, IsKnown, IsTypedPoint, CallsFunction, back_typed, called_function, typed_run, known_run}
use Rattle.run_facts.proofs.UsedExprs.{IsValueOf, value_used}
use Rattle.typed_programs.specs.TreeOperands.{Declarations, declarations, variable_shape, selected, tree_operand_step, operand_of}
use Rattle.typed_programs.specs.TypedStatements as fits
use Rattle.typed_programs.specs.TypedStatements.{passes, is_left_side, takes, assigns, IsTyped, act_fits}
use Rattle.typed_programs.proofs.TreeTypes.{type_is}
use Rattle.typed_programs.proofs.TypedPrograms.{programs_typed}
use Rattle.typed_programs.proofs.TypedUses.{holds_there, operand_there}
use Rattle.slice_engine.specs.Conversions.{Conversion, conversion, Fits, AllFit, layer_operands, IsPart, whole, deeper, layer_conversions, PartsFit, init_conversions, target_conversions, result_conversions, act_conversions, passed_conversions, doing_conversions, ConversionsFit, ConversionsAlwaysFit}

-- ---- lists of conversions

none_fit : AllFit []
none_fit c h = absurd (in_of_contains [] c h)

more_fit : (d : Conversion) (cs : List Conversion) → Fits d → AllFit cs → AllFit (d ∷ cs)
more_fit d cs first rest c h = elim (in_of_contains (d ∷ cs) c h) [
  | inl same ↦ subst Fits same first
  | inr later ↦ rest c (contains_of_in cs c later)
]

one_fits : (d : Conversion) → Fits d → AllFit (d ∷ [])
one_fits d first = more_fit d [] first none_fit

-- ---- values and types

-- a number, or a pointer for a pointer type
abbrev IsFit : ExprType → Value → Type 0
IsFit t v = (is_pointer t ≡ true) ⊎ ((z : ℤ) × (v ≡ Number z))

pointer_some : (b : Bool) (v : Value) → b ≡ true → is_some (pointer_as b v) ≡ true
pointer_some b v h = ap (λ c. is_some (pointer_as c v)) h

fit_converts : (t : ExprType) (v : Value) → IsFit t v → is_some (as_type t v) ≡ true
fit_converts t (Number z) h = refl
fit_converts t Null (inl pointer) = pointer_some (is_pointer t) Null pointer
fit_converts t Null (inr w) = absurd (null_no_number w.0 w.1)
  where
    null_no_number : (z : ℤ) → Null ≡ Number z → ⊥
    null_no_number z e = cc
fit_converts t (To q) (inl pointer) = pointer_some (is_pointer t) (To q) pointer
fit_converts t (To q) (inr w) = absurd (pointer_no_number w.0 w.1)
  where
    pointer_no_number : (z : ℤ) → To q ≡ Number z → ⊥
    pointer_no_number z e = cc

-- a value of integer type is a number
integer_number : (p : Program) (s : State) (t : ExprType) (to : Places) (v : Value) → is_integer t ≡ true → IsValue p s t to v → (z : ℤ) × (v ≡ Number z)
integer_number p s t to (Number z) i h = (z, refl)
integer_number p s t to Null i h = not_both t i h
integer_number p s t to (To q) i h = not_both t i (ap is_some h.target_is)

integer_value : (t : ExprType) → is_integer t ≡ true → is_integer (value_type t) ≡ true
integer_value t h = by_layers t.layers t.base h
  where
    by_layers : (ls : List Layer) (b : Base) → is_integer (record { layers = ls; base = b }) ≡ true → is_integer (value_type (record { layers = ls; base = b })) ≡ true
    by_layers [] b i = i
    by_layers (l ∷ ls) b i = absurd (false≢true i)

-- what an object of the type takes
assigned_fits : (t : ExprType) (y : Operand) (v : Value) → (is_integer y.shape ≡ true → (z : ℤ) × (v ≡ Number z)) → is_assignable t y ≡ true → IsFit t v
assigned_fits t y v number h = elim (or_cases (is_integer t && is_integer y.shape) (is_pointer t && (same_type t (value_type y.shape) || y.is_null)) h) [
  | inl i ↦ inr (number (and_parts (is_integer t) (is_integer y.shape) i).1)
  | inr q ↦ inl (and_parts (is_pointer t) (same_type t (value_type y.shape) || y.is_null) q).0
]

-- what is chosen is a pointer, or of two integers
chosen_kinds : (y z : Operand) (t : ExprType) → chosen_result y z ≡ Some t → (is_pointer t ≡ true) ⊎ ((is_integer y.shape ≡ true) × (is_integer z.shape ≡ true))
chosen_kinds y z t e =
    let vy = value_type y.shape in
    let vz = value_type z.shape in
    elim (or_there (common_result y.shape z.shape) (option_or (given (are_alike vy vz || (is_object_pointer vy && z.is_null)) vy) (given (is_object_pointer vz && y.is_null) vz)) t e) [
      | inl both ↦ let k = both_parts (λ (i j : IntType). integer (common i j)) (integer_of y.shape) (integer_of z.shape) t both in inr (ap is_some k.left_there, ap is_some k.right_there)
      | inr other ↦ elim (or_there (given (are_alike vy vz || (is_object_pointer vy && z.is_null)) vy) (given (is_object_pointer vz && y.is_null) vz) t other) [
        | inl first ↦
            let k = given_true (are_alike vy vz || (is_object_pointer vy && z.is_null)) vy t first in
            let object : is_object_pointer vy ≡ true = elim (or_cases (are_alike vy vz) (is_object_pointer vy && z.is_null) k.0) [
              | inl h ↦ (and_parts (is_object_pointer vy) (same_type vy vz) h).0
              | inr h ↦ (and_parts (is_object_pointer vy) z.is_null h).0
            ] in
            inl (subst (λ u. is_pointer u ≡ true) k.1 (object_pointer vy (object_of vy) refl object))
        | inr second ↦
            let k = given_true (is_object_pointer vz && y.is_null) vz t second in
            inl (subst (λ u. is_pointer u ≡ true) k.1 (object_pointer vz (object_of vz) refl (and_parts (is_object_pointer vz) y.is_null k.0).0))
      ]
    ]

-- an operator at a left operand that is no pointer, and a number, gives a number
numbers_number : (f : ℤ → ℤ → Option ℤ) (x y v : Value) → at_numbers f x y ≡ Some v → (z : ℤ) × (v ≡ Number z)
numbers_number f (Number a) y v e = let k = map_there Number (option_and_then (f a) (number_in y)) v e in (k.value, sym k.same)
numbers_number f Null y v e = none_there e
numbers_number f (To q) y v e = none_there e

-- ---- in a state of a run

module _ (p : Program) (order : AreStructsInOrder p) (shapes : AreShapes p) (points : TargetsOf) (s : State) (so : IsTypedState p points s) (result : Option ExprType) where
  abbrev d : Declarations
  d = declarations p

  abbrev types : Types
  types = record { typing = typing_of p; result = result }

  abbrev Taken : (ℕ → Bool) → Type 0
  Taken takes = AreTaken p s takes

  type_at : (e : Expr) (x : Operand) → operand_of d e ≡ Some x → type_of types e ≡ x.shape
  type_at e x is = type_at_operand p order shapes points s so result (λ v. ⊥) e x is

  -- an operand of integer type gives a number
  number_at : (e : Expr) (y : Operand) (v : Value) → operand_of d e ≡ Some y → Taken (expr_takes p e) → eval types e s ≡ Some v → is_integer y.shape ≡ true → (z : ℤ) × (v ≡ Number z)
  number_at e y v y_is taken is i =
      integer_number p s (value_type y.shape) (expr_points p points e) v (integer_value y.shape i) (value_at p order shapes points s so result (λ u. ⊥) e y v y_is taken is)

  -- what is assigned is converted
  expr_fits : (e : Expr) (y : Operand) (t u : ExprType) → operand_of d e ≡ Some y → Taken (expr_takes p e) → u ≡ t → is_assignable t y ≡ true → Fits (conversion (eval types e s) u)
  expr_fits e y t u y_is taken same h v is =
      subst (λ w. is_some (as_type w v) ≡ true) (sym same) (fit_converts t v (assigned_fits t y v (number_at e y v y_is taken is) h))

  taken_fits : (e : Expr) (t u : ExprType) → takes d e t ≡ true → Taken (expr_takes p e) → u ≡ t → Fits (conversion (eval types e s) u)
  taken_fits e t u h taken same = let y = operand_there d (is_assignable t) e h in expr_fits e y.0 t u y.1 taken same y.2

  -- a number fits each type, and each value a pointer's
  number_fits : (z : ℤ) (t : ExprType) → Fits (conversion (Some (Number z)) t)
  number_fits z t v is = fit_converts t v (inr (z, sym (some_same is)))

  pointer_fits : (o : Option Value) (t u : ExprType) → u ≡ t → is_pointer t ≡ true → Fits (conversion o u)
  pointer_fits o t u same h v is = subst (λ w. is_some (as_type w v) ≡ true) (sym same) (fit_converts t v (inl h))

  -- ---- parts of expressions

  record Known (e : Expr) : Type 0 where
    operand : Operand
    operand_is : operand_of d e ≡ Some operand
    taken : Taken (left_takes p e)

  abbrev seen : Expr → Designated
  seen = designated p

  abbrev layer_seen : Expr-F Expr → Designated
  layer_seen z = designated_step p (map-Expr Expr Designated seen z)

  abbrev layer_type : Expr-F Expr → ExprType
  layer_type z = tree_type_step p (map-Expr Designated ExprType (λ (g : Designated). g.type) (map-Expr Expr Designated seen z))

  layer_operand : (z : Expr-F Expr) (k : Known (roll-Expr z)) → tree_operand_step d (map-Expr Expr (Option Operand) (operand_of d) z) ≡ Some k.operand
  layer_operand z k = sym (fold-roll-Expr (Option Operand) (tree_operand_step d) z) ∙ k.operand_is

  layer_taken : (z : Expr-F Expr) → Known (roll-Expr z) → Taken ((layer_seen z).takes)
  layer_taken z k = subst (λ (g : Designated). Taken g.takes) (fold-roll-Expr Designated (designated_step p) z) k.taken

  -- of an operand of a layer, by what the layer takes
  as_value : (a : Expr) (y : Operand) (all : ℕ → Bool) → operand_of d a ≡ Some y → Taken all → ((x : ℕ) → value_takes (seen a) x ≡ true → all x ≡ true) → Known a
  as_value a y all is taken le = record { operand = y; operand_is = is; taken = λ x t. taken x (le x (or_left ((seen a).takes x) _ t)) }

  as_object : (a : Expr) (y : Operand) (all : ℕ → Bool) → operand_of d a ≡ Some y → Taken all → ((x : ℕ) → (seen a).takes x ≡ true → all x ≡ true) → Known a
  as_object a y all is taken le = record { operand = y; operand_is = is; taken = λ x t. taken x (le x t) }

  one_known : (a m : Expr) → IsIn (a ∷ []) m → Known a → Known m
  one_known a m (inl same) k = subst Known same k
  one_known a m (inr none) k = absurd none

  two_known : (a b m : Expr) → IsIn (a ∷ (b ∷ [])) m → Known a → Known b → Known m
  two_known a b m (inl same) k l = subst Known same k
  two_known a b m (inr h) k l = one_known b m h l

  if_takes : (b : Bool) (u v : Designated) (x : ℕ) → u.takes x ≡ true → v.takes x ≡ true → (if b then u else v).takes x ≡ true
  if_takes true u v x h k = h
  if_takes false u v x h k = k

  -- an element takes what its array and its index take
  module _ (t : ExprType) (a i : Designated) (x : ℕ) where
    abbrev in_array : Designated
    in_array = seen_place t a.root None (λ y. a.takes y || value_takes i y)

    abbrev behind_pointer : Designated
    behind_pointer = seen_place t None None (takes_either a i)

    element_takes : a.takes x ≡ true → (an_element t a i).takes x ≡ true
    element_takes h =
        if_takes (is_array_place a) in_array behind_pointer x (or_left (a.takes x) (value_takes i x) h) (or_left (value_takes a x) (value_takes i x) (or_left (a.takes x) _ h))

    index_takes : value_takes i x ≡ true → (an_element t a i).takes x ≡ true
    index_takes h = if_takes (is_array_place a) in_array behind_pointer x (or_right (a.takes x) (value_takes i x) h) (or_right (value_takes a x) (value_takes i x) h)

  -- a choice: its operands, and what it converts
  record Chosen (q a b : Expr) (t : ExprType) : Type 0 where
    test : Known q
    first : Known a
    second : Known b
    first_fits : Fits (conversion (eval types a s) t)
    second_fits : Fits (conversion (eval types b s) t)

  chosen : (q a b : Expr) (h : Known (roll-Expr (Expr-F.Choose q a b))) → Chosen q a b (type_of types (roll-Expr (Expr-F.Choose q a b)))
  chosen q a b h =
      let z : Expr-F Expr = Expr-F.Choose q a b in
      let k = of_one (λ (x : Operand). option_and_then (λ (y : Operand). option_and_then (choose_result x y) (operand_of d b)) (operand_of d a)) a_value (operand_of d q) h.operand (layer_operand z h) in
      let ka = then_there (λ (y : Operand). option_and_then (choose_result k.first y) (operand_of d b)) (operand_of d a) k.type k.type_is in
      let kb = then_there (choose_result k.first ka.value) (operand_of d b) k.type ka.same in
      let r = then_there (λ (t : ExprType). given (is_scalar (value_type k.first.shape)) t) (chosen_result ka.value kb.value) k.type kb.same in
      let same : r.value ≡ k.type = (given_true (is_scalar (value_type k.first.shape)) r.value k.type r.same).1 in
      let type : type_of types (roll-Expr z) ≡ r.value = type_at (roll-Expr z) h.operand h.operand_is ∙ sym (ap (λ (o : Operand). o.shape) k.same) ∙ sym same in
      let kinds = chosen_kinds ka.value kb.value r.value r.there in
      let all = (layer_seen z).takes in
      let taken = layer_taken z h in
      let of_a : (x : ℕ) → value_takes (seen a) x ≡ true → all x ≡ true = λ x t. or_right (value_takes (seen q) x) _ (or_left (value_takes (seen a) x) (value_takes (seen b) x) t) in
      let of_b : (x : ℕ) → value_takes (seen b) x ≡ true → all x ≡ true = λ x t. or_right (value_takes (seen q) x) _ (or_right (value_takes (seen a) x) (value_takes (seen b) x) t) in
      record {
        test = as_value q k.first all k.first_is taken (λ x t. or_left (value_takes (seen q) x) _ t);
        first = as_value a ka.value all ka.there taken of_a;
        second = as_value b kb.value all kb.there taken of_b;
        first_fits = λ v is. subst (λ w. is_some (as_type w v) ≡ true) (sym type) (fit_converts r.value v (elim kinds [
          | inl pointer ↦ inl pointer
          | inr both ↦ inr (number_at a ka.value v ka.there (λ x t. taken x (of_a x t)) is both.0)
        ]));
        second_fits = λ v is. subst (λ w. is_some (as_type w v) ≡ true) (sym type) (fit_converts r.value v (elim kinds [
          | inl pointer ↦ inl pointer
          | inr both ↦ inr (number_at b kb.value v kb.there (λ x t. taken x (of_b x t)) is both.1)
        ]));
      }

  -- a cast: its operand, a number
  record CastOf (a : Expr) : Type 0 where
    known : Known a
    number : (v : Value) → eval types a s ≡ Some v → (z : ℤ) × (v ≡ Number z)

  cast_of : (i : IntType) (a : Expr) → Known (roll-Expr (Expr-F.Cast i a)) → CastOf a
  cast_of i a h =
      let z : Expr-F Expr = Expr-F.Cast i a in
      let k = of_one (cast_result i) a_value (operand_of d a) h.operand (layer_operand z h) in
      let taken = layer_taken z h in
      record {
        known = as_value a k.first ((layer_seen z).takes) k.first_is taken (λ x t. t);
        number = λ v is. number_at a k.first v k.first_is taken is (given_true (is_integer k.first.shape) (integer i) k.type k.type_is).0;
      }

  layer_known : (z : Expr-F Expr) → Known (roll-Expr z) → (m : Expr) → IsIn (layer_operands z) m → Known m
  layer_known (Expr-F.Constant text k v) h m c = absurd c
  layer_known Expr-F.Null h m c = absurd c
  layer_known Expr-F.Eof h m c = absurd c
  layer_known (Expr-F.Variable x) h m c = absurd c
  layer_known (Expr-F.Unary op a) h m c =
      let z : Expr-F Expr = Expr-F.Unary op a in
      let k = of_one (λ (y : Operand). unary_result op (value_type y.shape)) a_value (operand_of d a) h.operand (layer_operand z h) in
      one_known a m c (as_value a k.first ((layer_seen z).takes) k.first_is (layer_taken z h) (λ x t. t))
  layer_known (Expr-F.Deref a) h m c =
      let z : Expr-F Expr = Expr-F.Deref a in
      let k = of_one pointed a_place (operand_of d a) h.operand (layer_operand z h) in
      one_known a m c (as_value a k.first ((layer_seen z).takes) k.first_is (layer_taken z h) (λ x t. t))
  layer_known (Expr-F.AddressOf a) h m c =
      let z : Expr-F Expr = Expr-F.AddressOf a in
      let k = of_one address_result a_value (operand_of d a) h.operand (layer_operand z h) in
      one_known a m c (as_object a k.first ((layer_seen z).takes) k.first_is (layer_taken z h) (λ x t. or_left ((seen a).takes x) _ t))
  layer_known (Expr-F.Binary op a b) h m c =
      let z : Expr-F Expr = Expr-F.Binary op a b in
      let k = of_two (binary_result op) a_value (operand_of d a) (operand_of d b) h.operand (layer_operand z h) in
      two_known a b m c (as_value a k.first ((layer_seen z).takes) k.first_is (layer_taken z h) (λ x t. or_left (value_takes (seen a) x) (value_takes (seen b) x) t))
      (as_value b k.second ((layer_seen z).takes) k.second_is (layer_taken z h) (λ x t. or_right (value_takes (seen a) x) (value_takes (seen b) x) t))
  layer_known (Expr-F.AndAlso a b) h m c =
      let z : Expr-F Expr = Expr-F.AndAlso a b in
      let k = of_two logical_result a_value (operand_of d a) (operand_of d b) h.operand (layer_operand z h) in
      two_known a b m c (as_value a k.first ((layer_seen z).takes) k.first_is (layer_taken z h) (λ x t. or_left (value_takes (seen a) x) (value_takes (seen b) x) t))
      (as_value b k.second ((layer_seen z).takes) k.second_is (layer_taken z h) (λ x t. or_right (value_takes (seen a) x) (value_takes (seen b) x) t))
  layer_known (Expr-F.OrElse a b) h m c =
      let z : Expr-F Expr = Expr-F.OrElse a b in
      let k = of_two logical_result a_value (operand_of d a) (operand_of d b) h.operand (layer_operand z h) in
      two_known a b m c (as_value a k.first ((layer_seen z).takes) k.first_is (layer_taken z h) (λ x t. or_left (value_takes (seen a) x) (value_takes (seen b) x) t))
      (as_value b k.second ((layer_seen z).takes) k.second_is (layer_taken z h) (λ x t. or_right (value_takes (seen a) x) (value_takes (seen b) x) t))
  layer_known (Expr-F.Choose q a b) h m (inl same) = subst Known same (chosen q a b h).test
  layer_known (Expr-F.Choose q a b) h m (inr c) = two_known a b m c (chosen q a b h).first (chosen q a b h).second
  layer_known (Expr-F.Cast k a) h m c = one_known a m c (cast_of k a h).known
  layer_known (Expr-F.Index a i) h m c =
      let z : Expr-F Expr = Expr-F.Index a i in
      let k = of_two indexed a_place (operand_of d a) (operand_of d i) h.operand (layer_operand z h) in
      two_known a i m c
      (as_object a k.first ((layer_seen z).takes) k.first_is (layer_taken z h) (λ x t. element_takes (layer_type z) (seen a) (seen i) x t))
      (as_value i k.second ((layer_seen z).takes) k.second_is (layer_taken z h) (λ x t. index_takes (layer_type z) (seen a) (seen i) x t))
  layer_known (Expr-F.Member a n) h m c =
      let z : Expr-F Expr = Expr-F.Member a n in
      let k = of_one (λ (y : Operand). selected d n y.shape) a_place (operand_of d a) h.operand (layer_operand z h) in
      one_known a m c (as_object a k.first ((layer_seen z).takes) k.first_is (layer_taken z h) (λ x t. t))
  layer_known (Expr-F.Arrow a n) h m c =
      let z : Expr-F Expr = Expr-F.Arrow a n in
      let k = of_one (λ (y : Operand). option_and_then (selected d n) (pointed y)) a_place (operand_of d a) h.operand (layer_operand z h) in
      one_known a m c (as_value a k.first ((layer_seen z).takes) k.first_is (layer_taken z h) (λ x t. t))
  layer_known (Expr-F.Paren a) h m c =
      let z : Expr-F Expr = Expr-F.Paren a in
      one_known a m c (as_object a h.operand ((layer_seen z).takes) (layer_operand z h) (layer_taken z h) (λ x t. t))

  -- what a layer converts fits
  layer_fits : (z : Expr-F Expr) → Known (roll-Expr z) → AllFit (layer_conversions types s (type_of types (roll-Expr z)) z)
  layer_fits (Expr-F.Constant text k v) h = none_fit
  layer_fits Expr-F.Null h = none_fit
  layer_fits Expr-F.Eof h = none_fit
  layer_fits (Expr-F.Variable x) h = none_fit
  layer_fits (Expr-F.Unary op a) h = none_fit
  layer_fits (Expr-F.Deref a) h = none_fit
  layer_fits (Expr-F.AddressOf a) h = none_fit
  layer_fits (Expr-F.Binary op a b) h = none_fit
  layer_fits (Expr-F.AndAlso a b) h = none_fit
  layer_fits (Expr-F.OrElse a b) h = none_fit
  layer_fits (Expr-F.Choose q a b) h =
      let t = type_of types (roll-Expr (Expr-F.Choose q a b)) in
      let k = chosen q a b h in
      more_fit (conversion (eval types a s) t) (conversion (eval types b s) t ∷ []) k.first_fits (one_fits (conversion (eval types b s) t) k.second_fits)
  layer_fits (Expr-F.Cast i a) h =
      let t = type_of types (roll-Expr (Expr-F.Cast i a)) in
      one_fits (conversion (eval types a s) t) (λ v is. fit_converts t v (inr ((cast_of i a h).number v is)))
  layer_fits (Expr-F.Index a i) h = none_fit
  layer_fits (Expr-F.Member a m) h = none_fit
  layer_fits (Expr-F.Arrow a m) h = none_fit
  layer_fits (Expr-F.Paren a) h = none_fit

  part_known : {part e : Expr} → IsPart part e → Known e → Known part
  part_known whole k = k
  part_known (deeper {operand = m} {e = e} c rest) k =
      part_known rest (layer_known (out-Expr e) (subst Known (sym (roll-out-Expr e)) k) m (in_of_contains (layer_operands (out-Expr e)) m c))

  pub parts_fit : (e : Expr) (x : Operand) → operand_of d e ≡ Some x → Taken (left_takes p e) → PartsFit types s e
  parts_fit e x is taken part part_of =
      let k = part_known part_of (record { operand = x; operand_is = is; taken = taken }) in
      subst (λ y. AllFit (layer_conversions types s (type_of types y) (out-Expr part))) (roll-out-Expr part)
      (layer_fits (out-Expr part) (subst Known (sym (roll-out-Expr part)) k))

  -- ---- acts

  -- what a target gets, where an object of each type that it may have takes it
  pub target_fits : (to : Target) (o : Option Value) (t : ExprType) → ((v : Value) → o ≡ Some v → is_integer t ≡ true → (z : ℤ) × (v ≡ Number z)) → fits.stores d to (a_value t) ≡ true → AllFit (target_conversions types s to o)
  target_fits target.None o t number h = none_fit
  target_fits (target.Place e) o t number h =
      let k = and_parts (passes d is_left_side e) (passes d (λ (x : Operand). is_assignable x.shape (a_value t)) e) h in
      let x = operand_there d (λ (z : Operand). is_assignable z.shape (a_value t)) e k.1 in
      one_fits (conversion o (type_of types e)) (λ v is. subst (λ w. is_some (as_type w v) ≡ true) (sym (type_at e x.0 x.1)) (fit_converts x.0.shape v (assigned_fits x.0.shape (a_value t) v (number v is) x.2)))
  target_fits (target.Declared x) o t number h =
      let u = holds_there (λ (z : ExprType). is_scalar z && is_assignable z (a_value t)) (variable_shape d x) h in
      one_fits (conversion o (type_of_variable p x)) (λ v is. subst (λ w. is_some (as_type w v) ≡ true) (sym (variable_type p x u.0 u.1)) (fit_converts u.0 v (assigned_fits u.0 (a_value t) v (number v is) (and_parts (is_scalar u.0) (is_assignable u.0 (a_value t)) u.2).1)))

  -- so does the target of a malloc, whatever its value
  pointed_there : (n : Amount) (t : ExprType) → fits.holds_objects d n t ≡ true → is_pointer t ≡ true
  pointed_there n t h = ap is_some (holds_there (fits.asks d n) (target_of t) h).1

  malloc_fits : (to : Target) (n : Amount) (o : Option Value) → fits.allocates d to n ≡ true → AllFit (target_conversions types s to o)
  malloc_fits target.None n o h = none_fit
  malloc_fits (target.Place e) n o h =
      let k = and_parts (passes d is_left_side e) (passes d (λ (x : Operand). fits.holds_objects d n x.shape) e) h in
      let x = operand_there d (λ (y : Operand). fits.holds_objects d n y.shape) e k.1 in
      one_fits (conversion o (type_of types e)) (pointer_fits o x.0.shape (type_of types e) (type_at e x.0 x.1) (pointed_there n x.0.shape x.2))
  malloc_fits (target.Declared x) n o h =
      let t = holds_there (fits.holds_objects d n) (variable_shape d x) h in
      one_fits (conversion o (type_of_variable p x)) (pointer_fits o t.0 (type_of_variable p x) (variable_type p x t.0 t.1) (pointed_there n t.0 t.2))

  items_fit : (es : List Expr) (t u : ExprType) → list_all (λ (e : Expr). takes d e t) es ≡ true → Taken (any_takes p es) → u ≡ t → AllFit (map (λ (e : Expr). conversion (eval types e s) u) es)
  items_fit [] t u h taken same = none_fit
  items_fit (e ∷ es) t u h taken same =
      let k = and_parts (takes d e t) (list_all (λ (a : Expr). takes d a t) es) h in
      more_fit (conversion (eval types e s) u) (map (λ (a : Expr). conversion (eval types a s) u) es) (taken_fits e t u k.0 (λ x i. taken x (or_left (expr_takes p e x) (any_takes p es x) i)) same)
      (items_fit es t u k.1 (λ x i. taken x (or_right (expr_takes p e x) (any_takes p es x) i)) same)

  item_there : (ls : List Layer) (b : Base) (u : ExprType) → element_of (record { layers = ls; base = b }) ≡ Some u → item_type (record { layers = ls; base = b }) ≡ u
  item_there [] b u e = none_there e
  item_there (layer.Pointer ∷ ls) b u e = none_there e
  item_there (layer.Array n ∷ ls) b u e = some_same e

  init_fits : (x : ℕ) (i : Init) → fits.begins d x i ≡ true → Taken (act_takes p (Begins x i)) → AllFit (init_conversions types s x i)
  init_fits x init.None h taken = none_fit
  init_fits x (init.One e) h taken =
      let t = holds_there (fits.begins_with d (init.One e)) (variable_shape d x) h in
      let k = and_parts (is_scalar t.0) (takes d e t.0) t.2 in
      one_fits (conversion (eval types e s) (type_of_variable p x)) (taken_fits e t.0 (type_of_variable p x) k.1 taken (variable_type p x t.0 t.1))
  init_fits x (init.Items es) h taken =
      let t = holds_there (fits.begins_with d (init.Items es)) (variable_shape d x) h in
      let u = holds_there (λ (w : ExprType). holds_of (fits.lists d es w) (count_of t.0)) (element_of t.0) t.2 in
      let n = holds_there (fits.lists d es u.0) (count_of t.0) u.2 in
      let k = and_parts (is_scalar u.0) (not (nat_lt n.0 (length es)) && list_all (λ (e : Expr). takes d e u.0) es) n.2 in
      let all = (and_parts (not (nat_lt n.0 (length es))) (list_all (λ (e : Expr). takes d e u.0) es) k.1).1 in
      items_fit es u.0 (item_type (type_of_variable p x)) all taken (ap item_type (variable_type p x t.0 t.1) ∙ item_there t.0.layers t.0.base u.0 u.1)

  -- ---- assignments

  -- a compound assignment is that of the operator's expression
  compound_fits : (left : Expr) (op : BinaryOp) (right : Expr) (x : Operand) → operand_of d left ≡ Some x → passes d (assigns (Some op) x) right ≡ true → Taken (expr_takes p left) → Taken (expr_takes p right) → Fits (conversion (right_of types (Some op) left right s) (type_of types left))
  compound_fits left op right x x_is h first second =
      let z : Expr-F Expr = Expr-F.Binary op left right in
      let e = roll-Expr z in
      let y = operand_there d (assigns (Some op) x) right h in
      let r = holds_there (λ (t : ExprType). is_assignable x.shape (a_value t)) (binary_result op x y.0) y.2 in
      let whole_is : operand_of d e ≡ Some (a_value r.0) =
      fold-roll-Expr (Option Operand) (tree_operand_step d) z
      ∙ ap (λ (o : Option Operand). option_map a_value (option_and_then (λ (w : Operand). option_and_then (binary_result op w) (operand_of d right)) o)) x_is
      ∙ ap (λ (o : Option Operand). option_map a_value (option_and_then (binary_result op x) o)) y.1 ∙ ap (option_map a_value) r.1 in
      let value : eval types e s ≡ right_of types (Some op) left right s = ap (λ (m : Meant). m.value s) (fold-roll-Expr Meant (meant_step types) z) in
      let all : Taken (expr_takes p e) = subst (λ (g : Designated). Taken (value_takes g)) (sym (fold-roll-Expr Designated (designated_step p) z))
      (λ i t. elim (or_cases ((layer_seen z).takes i) false t) [
        | inl some ↦ elim (or_cases (value_takes (seen left) i) (value_takes (seen right) i) some) [ inl a ↦ first i a | inr b ↦ second i b ]
        | inr none ↦ absurd (false≢true none)
      ]) in
      subst (λ (o : Option Value). Fits (conversion o (type_of types left))) value (expr_fits e (a_value r.0) x.shape (type_of types left) whole_is all (type_at left x x_is) r.2)

  bumped_fits : (left : Expr) (up : Bool) (x : Operand) → operand_of d left ≡ Some x → is_left_side x ≡ true → Fits (conversion (bumped types left up s) (type_of types left))
  bumped_fits left up x x_is h = elim (or_cases (is_integer x.shape) (is_pointer x.shape) (and_parts x.is_place (is_scalar x.shape) h).1) [
    | inr pointer ↦ pointer_fits (bumped types left up s) x.shape (type_of types left) (type_at left x x_is) pointer
    | inl number ↦ λ v is.
        let t = type_of types left in
        let no : is_pointer (value_type t) ≡ false = ap (λ u. is_pointer (value_type u)) (type_at left x x_is) ∙ no_pointer x.shape number in
        let b = both_there (at_operands (is_pointer (value_type t)) false (bump up) (operand_type (bump up) (int_type t) (int_type (integer Int))) s.memory) (eval types left s) (Some (Number (pos 1))) v is in
        let given_ = subst (λ l. at_operands l false (bump up) (operand_type (bump up) (int_type t) (int_type (integer Int))) s.memory b.0 b.1.0 ≡ Some v) no b.1.1.1.1 in
        fit_converts t v (inr (numbers_number (converted_binary (bump up) (operand_type (bump up) (int_type t) (int_type (integer Int)))) b.0 b.1.0 v given_))
  ]

  module _ (c : Option CType) (result_same : result ≡ option_map shape_of c) where
    returned_fits : (e : Option Expr) → fits.returns d c e ≡ true → Taken (act_takes p (Returns e)) → AllFit (result_conversions types s result e)
    returned_fits None h taken = by_result result
      where
        by_result : (o : Option ExprType) → AllFit (result_conversions types s o None)
        by_result None = none_fit
        by_result (Some t) = none_fit
    returned_fits (Some e) h taken =
        let t = holds_there (λ (k : CType). takes d e (shape_of k)) c h in
        let is : result ≡ Some (shape_of t.0) = result_same ∙ ap (option_map shape_of) t.1 in
        subst (λ (o : Option ExprType). AllFit (result_conversions types s o (Some e))) (sym is)
        (one_fits (conversion (eval types e s) (shape_of t.0)) (taken_fits e (shape_of t.0) (shape_of t.0) t.2 taken refl))

    act_fit_all : (a : Act) → act_fits d c a ≡ true → Taken (act_takes p a) → AllFit (act_conversions types s a)
    act_fit_all (Begins x i) h taken = init_fits x i h taken
    act_fit_all (Sets left None right) h taken =
        let k = and_parts (passes d is_left_side left) (passes d (λ (x : Operand). passes d (assigns None x) right) left) h in
        let x = operand_there d (λ (z : Operand). passes d (assigns None z) right) left k.1 in
        one_fits (conversion (eval types right s) (type_of types left)) (taken_fits right x.0.shape (type_of types left) x.2 (λ i t. taken i (or_right (left_takes p left i) (expr_takes p right i) t)) (type_at left x.0 x.1))
    act_fit_all (Sets left (Some op) right) h taken =
        let k = and_parts (passes d is_left_side left) (passes d (λ (x : Operand). passes d (assigns (Some op) x) right) left) h in
        let x = operand_there d (λ (z : Operand). passes d (assigns (Some op) z) right) left k.1 in
        let u = value_used p points shapes c (Sets left (Some op) right) h left (inr (inl refl)) in
        one_fits (conversion (right_of types (Some op) left right s) (type_of types left))
        (compound_fits left op right x.0 x.1 x.2 (λ i t. taken i (u.taken i t)) (λ i t. taken i (or_right (left_takes p left i) (expr_takes p right i) t)))
    act_fit_all (Bumps left up) h taken =
        let k = and_parts (passes d is_left_side left) _ h in
        let x = operand_there d is_left_side left k.0 in
        one_fits (conversion (bumped types left up s) (type_of types left)) (bumped_fits left up x.0 x.1 x.2)
    act_fit_all (Fetches to) h taken = target_fits to (Some (Number (next_byte s.unread))) (integer Int) (λ v is i. (next_byte s.unread, sym (some_same is))) h
    act_fit_all (Writes e) h taken = none_fit
    act_fit_all (Prints format args) h taken = none_fit
    act_fit_all (Allocates to n) h taken = malloc_fits to n (Some (next_block s)) h
    act_fit_all (Frees e) h taken = none_fit
    act_fit_all (Returns e) h taken = returned_fits e h taken
    act_fit_all (Tests e) h taken = none_fit

  passed_fit : (xs : List ℕ) (es : List Expr) → fits.passed d xs es ≡ true → Taken (any_takes p es) → AllFit (passed_conversions types s xs es)
  passed_fit [] es h taken = none_fit
  passed_fit (x ∷ xs) [] h taken = none_fit
  passed_fit (x ∷ xs) (e ∷ es) h taken =
      let k = and_parts (holds_of (takes d e) (variable_shape d x)) (fits.passed d xs es) h in
      let t = holds_there (takes d e) (variable_shape d x) k.0 in
      more_fit (conversion (eval types e s) (type_of_variable p x)) (passed_conversions types s xs es) (taken_fits e t.0 (type_of_variable p x) t.2 (λ i u. taken i (or_left (expr_takes p e i) (any_takes p es i) u)) (variable_type p x t.0 t.1))
      (passed_fit xs es k.1 (λ i u. taken i (or_right (expr_takes p e i) (any_takes p es i) u)))

-- ---- where a run stands

module _ (p : Program) (points : TargetsOf) (order : AreStructsInOrder p) (shapes : AreShapes p) (typed : IsTyped p) (exact : IsPointsTo p points) (x : Point) (known : IsKnown p points x) (so : IsTypedPoint p points x) where
  abbrev f : ℕ
  f = x.function

  doing_taken_all : (d : Doing) → StandsIn p f d → (i : ℕ) → doing_takes p d i ≡ true → is_taken p i ≡ true
  doing_taken_all d k i t = doing_taken p f d k i t

  doing_fits_all : (d : Doing) → StandsIn p f d → AllFit (doing_conversions (types_in (executable p) f) x.state p d)
  doing_fits_all (Does i a) k =
      act_fit_all p order shapes points x.state so.state (result_at (executable p) f) k.function.result (result_is p f k.function k.function_is) a (doing_fit p typed f (Does i a) k) (doing_taken_all (Does i a) k)
  doing_fits_all (Calls i to g args) k =
      let h = called_function p points to g args (doing_fit p typed f (Calls i to g args) k) in
      let same : parameters p g ≡ h.function.params = ap (λ o. option_map_or (λ (w : Function). w.params) o []) h.function_is in
      subst (λ xs. AllFit (passed_conversions (types_in (executable p) f) x.state xs args)) (sym same)
      (passed_fit p order shapes points x.state so.state (result_at (executable p) f) h.function.params args h.passes (λ j t. doing_taken_all (Calls i to g args) k j (or_right (target_takes p to j) (any_takes p args j) t)))

  used_parts : (d : Doing) → StandsIn p f d → (e : Expr) → IsValueOf p points shapes (doing_takes p d) e → PartsFit (types_in (executable p) f) x.state e
  used_parts d k e u =
      parts_fit p order shapes points x.state so.state (result_at (executable p) f) e u.operand u.operand_is (λ i t. doing_taken_all d k i (u.taken i (or_left (left_takes p e i) _ t)))

  doing_parts : (d : Doing) (e : Expr) → StandsIn p f d → Contains (doing_values d ++ doing_places d) e → PartsFit (types_in (executable p) f) x.state e
  doing_parts d e k c = elim (in_either (doing_values d) (doing_places d) e (in_of_contains (doing_values d ++ doing_places d) e c)) [
    | inl v ↦ used_parts d k e (doing_value p points order shapes typed f d k e v)
    | inr q ↦ used_parts d k e (doing_place p points order shapes typed f d k e q)
  ]

  -- what a waiting caller gets
  module _ (w : Waiting) (ws : List Waiting) (are : x.callers ≡ w ∷ ws) where
    abbrev back : State
    back = back_in (executable p) x.function w x.state

    back_is : IsTypedState p points back
    back_is = back_typed p points order shapes typed exact x w ws are known so

    abbrev got : Option Value
    got = x.state.returned

    -- its call
    waits : AreWaiting (executable p) (Own p points) x.state.origins x.function (w ∷ ws)
    waits = subst (AreWaiting (executable p) (Own p points) x.state.origins x.function) are known.sound.callers

    call_there : CallsFunction p points w.target x.function waits.0.args
    call_there =
        let c = Calls w.call w.target x.function waits.0.args in
        called_function p points w.target x.function waits.0.args (doing_fit p typed w.function c (stands_in p w.function c waits.0.calls))

    -- a result that is a number where the function's type is an integer's
    got_number : (t : CType) → call_there.function.result ≡ Some t → (v : Value) → got ≡ Some v → is_integer (shape_of t) ≡ true → (z : ℤ) × (v ≡ Number z)
    got_number t t_is v is i =
        let r = so.returned v is in
        let type : r.0 ≡ shape_of t = some_same (sym r.1.0 ∙ result_is p x.function call_there.function call_there.function_is ∙ ap (option_map shape_of) t_is) in
        integer_number p x.state r.0 (points (result_of x.function)) v (subst (λ u. is_integer u ≡ true) (sym type) i) r.1.1

    stored_fits : (to : Target) (t : CType) → call_there.function.result ≡ Some t → fits.stores (declarations p) to (a_value (shape_of t)) ≡ true → AllFit (target_conversions (types_in (executable p) w.function) back to got)
    stored_fits to t t_is h = target_fits p order shapes points back back_is (result_at (executable p) w.function) to got (shape_of t) (got_number t t_is) h

    given_fits : (to : Target) → fits.gives (declarations p) to call_there.function.result ≡ true → AllFit (target_conversions (types_in (executable p) w.function) back to got)
    given_fits target.None h = none_fit
    given_fits (target.Place e) h =
        let t = holds_there (λ (k : CType). fits.stores (declarations p) (target.Place e) (a_value (shape_of k))) call_there.function.result h in
        stored_fits (target.Place e) t.0 t.1 t.2
    given_fits (target.Declared y) h =
        let t = holds_there (λ (k : CType). fits.stores (declarations p) (target.Declared y) (a_value (shape_of k))) call_there.function.result h in
        stored_fits (target.Declared y) t.0 t.1 t.2

    got_fits : AllFit (target_conversions (types_in (executable p) w.function) back w.target got)
    got_fits = given_fits w.target call_there.gives

    got_parts : (e : Expr) → Contains (target_exprs w.target) e → PartsFit (types_in (executable p) w.function) back e
    got_parts e c =
        let u = receipt_used p points order shapes typed exact x known so w ws e are c in
        parts_fit p order shapes points back back_is (result_at (executable p) w.function) e u.used.operand u.used.operand_is
        (λ i t. doing_taken p w.function (Calls w.call w.target x.function u.args) u.stands i (u.used.taken i (or_left (left_takes p e i) _ t)))

  next_stands : (d : Doing) → next_doing x.rest ≡ Some d → StandsIn p f d
  next_stands d is = stands_next p points order shapes typed exact x known so d is

  pub point_converts : ConversionsFit p x
  point_converts = record {
    doings = λ d is. doing_fits_all d (next_stands d is);
    parts = λ d e is c. doing_parts d e (next_stands d is) c;
    receipts = got_fits;
    receipt_parts = λ w ws e are c. got_parts w ws are e c;
  }

pub conversions_always_fit : ConversionsAlwaysFit
conversions_always_fit p well input x r =
    let points = has_points_to p well in
    let typed = programs_typed p well in
    point_converts p points.0 (well_formed_in_order p well) (type_is p) typed points.1 x (known_run p points.0 typed input x r) (typed_run p points.0 well points.1 input x r)
