-- What an expression may name is of its type, and what it may point to is of what its type points to, where that is so of the relation.
use Rattle.std.proofs.Common.{◌≡◌, ℕ, zero, suc, List, [], ◌∷◌, Option, Some, None, Bool, true, false, ◌&&◌, ◌||◌, ◌⊎◌, inl, inr, refl, sym, ap, ◌∙◌, subst}
use Rattle.std.specs.Prelude.{◌==◌, not, option_map, option_and_then, is_some, slice_get, if◌then◌else◌}
use Rattle.std.specs.List.{list_any}
use Rattle.std.specs.Option.{option_or}
use Rattle.std.proofs.lemmas.Bool.{false≢true, and_parts, or_cases}
use Rattle.std.proofs.lemmas.Option.{slice_get-map}
use Rattle.c_arith.specs.declared.int_type.IntType.{IntType}
use Rattle.c_arith.specs.declared.int_type.IntType.TheVariants.{Int, Long}
use Rattle.c_arith.specs.declared.operators.BinaryOp.{BinaryOp}
use Rattle.c_arith.specs.declared.operators.BinaryOp.TheVariants.{Mul, Div, Rem, Add, Sub, Shl, Shr, Less, Greater, AtMost, AtLeast, Equal, Unequal, And, Xor, Or}
use Rattle.c_arith.specs.Operators.{binary_type}
use Rattle.c_language.proofs.Options.{none_there, some_same, map_there, then_there, both_there}
use Rattle.c_language.proofs.Tests.{by_test}
use Rattle.c_tree.specs.declared.expr.Expr.{Expr, map-Expr, roll-Expr, fold-roll-Expr}
use Rattle.c_tree.specs.declared.expr.Expr.TheOpen.{Expr-F}
use Rattle.c_tree.specs.declared.expr.MemberId.{MemberId}
use Rattle.c_tree.specs.declared.program.Member.{Member}
use Rattle.c_tree.specs.declared.program.Program.{Program}
use Rattle.c_tree.proofs.Trees.{ExprParts, expr_layer, of_every_expr}
use Rattle.c_language.specs.ConstantEvaluation.{operand_type}
use Rattle.c_language.specs.DeclaredTypes.{integer, of_base}
use Rattle.c_language.specs.declared.expr_type.Base.{Base}
use Rattle.c_language.specs.declared.expr_type.Base.TheVariants as base
use Rattle.c_language.specs.declared.expr_type.Layer.{Layer}
use Rattle.c_language.specs.declared.expr_type.Layer.TheVariants as layer
use Rattle.c_language.specs.declared.expr_type.ExprType.{ExprType}
use Rattle.c_language.specs.declared.expr_type.Operand.{Operand}
use Rattle.c_language.specs.ExprTypes.{a_place, a_value, given, value_type, integer_of, is_integer, is_pointer, is_scalar, is_array, target_of, struct_of, object_of, same_type, are_alike, is_null_beside, are_comparable, is_object_pointer, integer_result, moved, sum_result, difference_result, order_result, equality_result, chosen_result, choose_result, unary_result, binary_result, logical_result, cast_result, pointed, indexed, address_result}
use Rattle.c_language.specs.TreeTypes.{shape_of, members_of, type_of_variable}
use Rattle.dep_model.specs.declared.location.Location.{Location}
use Rattle.dep_model.specs.declared.location.Part.{Part}
use Rattle.dep_model.specs.declared.location.Part.TheVariants as part
use Rattle.dep_model.specs.Denoted.{Places, TargetsOf, Denoted, variable, inside, is_location, part_of, targets, object_points, value_points, an_element, denoted, denoted_step}
use Rattle.dep_model.specs.Denoted as denote
use Rattle.dep_model.specs.Designated.{Designated, is_array_place}
use Rattle.dep_model.specs.Designated as designate
use Rattle.dep_model.specs.LocationLists.{location_list, AreListedOnce, AreStructsInOrder}
use Rattle.dep_model.specs.Locations.{TypedLocation, locations, same_location}
use Rattle.dep_model.proofs.Membership.{IsIn}
use Rattle.numbered_texts.proofs.Listed.{locations_are}
use Rattle.run_facts.specs.PointerLocations.{item_type}
use Rattle.run_facts.proofs.AssignedValues.{not_both}
use Rattle.run_facts.proofs.ExprsDenoted.{AreShapes, has_type, of_one, of_two, given_true, object_target, object_pointer, or_there, no_pointer, IsChoice, choice, selected_member}
use Rattle.run_facts.proofs.ListedObjects.{typed_location, variable_listed}
use Rattle.run_facts.proofs.ObjectValues.{points_of_array, points_of_object, points_of_value}
use Rattle.run_facts.proofs.PartsOfParts.{element_listed, member_there}
use Rattle.run_facts.proofs.Subobjects.{itself_in}
use Rattle.run_facts.proofs.TypedActs.{variable_type, pointer_value}
use Rattle.run_facts.proofs.TypedParts.{variable_below}
use Rattle.typed_programs.specs.TreeOperands.{Declarations, declarations, variable_shape, member_within, selected, tree_operand_step, operand_of}

-- ---- lists

-- one that passes a test
pub any_found : {A : Type 0} (test : A → Bool) (xs : List A) → list_any test xs ≡ true → (x : A) × (IsIn xs x × (test x ≡ true))
any_found test [] h = absurd (false≢true h)
any_found test (x ∷ xs) h = elim (or_cases (test x) (list_any test xs) h) [
  | inl here ↦ (x, (inl refl, here))
  | inr later ↦ let k = any_found test xs later in (k.0, (inr k.1.0, k.1.1))
]

place_of : {A : Type 0} (xs : List A) (x : A) → IsIn xs x → (n : ℕ) × (slice_get xs n ≡ Some x)
place_of [] x h = absurd h
place_of (y ∷ xs) x (inl is) = (zero, ap Some is)
place_of (y ∷ xs) x (inr h) = let k = place_of xs x h in (suc k.0, k.1)

-- ---- operators that give pointers

number_result : (op : BinaryOp) (s t z : ExprType) → integer_result op s t ≡ Some z → is_integer z ≡ true
number_result op s t z e =
    let k = both_there (λ (i j : IntType). integer (binary_type op (operand_type op i j))) (integer_of s) (integer_of t) z e in
    sym (ap is_integer k.same)

given_number : (b : Bool) (i : IntType) (z : ExprType) → given b (integer i) ≡ Some z → is_integer z ≡ true
given_number b i z e = let k = given_true b (integer i) z e in sym (ap is_integer k.1)

-- the whole is the pointer, and the other an integer
pub record IsMoved (x y : Operand) (z : ExprType) : Type 0 where
  pub by : ((z ≡ value_type x.shape) × (is_integer y.shape ≡ true)) ⊎ ((z ≡ value_type y.shape) × (is_integer x.shape ≡ true))

-- an operator gives a number, or the pointer moved
abbrev pub IsNumberOrMoved : Operand → Operand → ExprType → Type 0
IsNumberOrMoved x y z = (is_integer z ≡ true) ⊎ IsMoved x y z

moved_first : (x y : Operand) (z : ExprType) → moved (value_type x.shape) y.shape ≡ Some z → IsMoved x y z
moved_first x y z e =
    let k = given_true (is_object_pointer (value_type x.shape) && is_integer y.shape) (value_type x.shape) z e in
    record { by = inl (sym k.1, (and_parts (is_object_pointer (value_type x.shape)) (is_integer y.shape) k.0).1) }

moved_second : (x y : Operand) (z : ExprType) → moved (value_type y.shape) x.shape ≡ Some z → IsMoved x y z
moved_second x y z e =
    let k = given_true (is_object_pointer (value_type y.shape) && is_integer x.shape) (value_type y.shape) z e in
    record { by = inr (sym k.1, (and_parts (is_object_pointer (value_type y.shape)) (is_integer x.shape) k.0).1) }

sum_kind : (x y : Operand) (z : ExprType) → sum_result x y ≡ Some z → IsNumberOrMoved x y z
sum_kind x y z e =
    elim (or_there (integer_result Add x.shape y.shape) (option_or (moved (value_type x.shape) y.shape) (moved (value_type y.shape) x.shape)) z e) [
      | inl k ↦ inl (number_result Add x.shape y.shape z k)
      | inr k ↦ elim (or_there (moved (value_type x.shape) y.shape) (moved (value_type y.shape) x.shape) z k) [ inl m ↦ inr (moved_first x y z m) | inr m ↦ inr (moved_second x y z m) ]
    ]

difference_kind : (x y : Operand) (z : ExprType) → difference_result x y ≡ Some z → IsNumberOrMoved x y z
difference_kind x y z e =
    let alike = are_alike (value_type x.shape) (value_type y.shape) in
    elim (or_there (integer_result Sub x.shape y.shape) (option_or (moved (value_type x.shape) y.shape) (given alike (integer Long))) z e) [
      | inl k ↦ inl (number_result Sub x.shape y.shape z k)
      | inr k ↦ elim (or_there (moved (value_type x.shape) y.shape) (given alike (integer Long)) z k) [ inl m ↦ inr (moved_first x y z m) | inr m ↦ inl (given_number alike Long z m) ]
    ]

order_kind : (op : BinaryOp) (x y : Operand) (z : ExprType) → order_result op x y ≡ Some z → IsNumberOrMoved x y z
order_kind op x y z e =
    let alike = are_alike (value_type x.shape) (value_type y.shape) in
    elim (or_there (integer_result op x.shape y.shape) (given alike (integer Int)) z e) [ inl k ↦ inl (number_result op x.shape y.shape z k) | inr k ↦ inl (given_number alike Int z k) ]

equality_kind : (op : BinaryOp) (x y : Operand) (z : ExprType) → equality_result op x y ≡ Some z → IsNumberOrMoved x y z
equality_kind op x y z e =
    elim (or_there (integer_result op x.shape y.shape) (given (are_comparable x y) (integer Int)) z e) [ inl k ↦ inl (number_result op x.shape y.shape z k) | inr k ↦ inl (given_number (are_comparable x y) Int z k) ]

pub result_kind : (op : BinaryOp) (x y : Operand) (z : ExprType) → binary_result op x y ≡ Some z → IsNumberOrMoved x y z
result_kind Add x y z e = sum_kind x y z e
result_kind Sub x y z e = difference_kind x y z e
result_kind Less x y z e = order_kind Less x y z e
result_kind Greater x y z e = order_kind Greater x y z e
result_kind AtMost x y z e = order_kind AtMost x y z e
result_kind AtLeast x y z e = order_kind AtLeast x y z e
result_kind Equal x y z e = equality_kind Equal x y z e
result_kind Unequal x y z e = equality_kind Unequal x y z e
result_kind Mul x y z e = inl (number_result Mul x.shape y.shape z e)
result_kind Div x y z e = inl (number_result Div x.shape y.shape z e)
result_kind Rem x y z e = inl (number_result Rem x.shape y.shape z e)
result_kind Shl x y z e = inl (number_result Shl x.shape y.shape z e)
result_kind Shr x y z e = inl (number_result Shr x.shape y.shape z e)
result_kind And x y z e = inl (number_result And x.shape y.shape z e)
result_kind Xor x y z e = inl (number_result Xor x.shape y.shape z e)
result_kind Or x y z e = inl (number_result Or x.shape y.shape z e)

-- an operator that gives a pointer has moved it
result_moved : (op : BinaryOp) (x y : Operand) (z : ExprType) → binary_result op x y ≡ Some z → is_pointer z ≡ true → IsMoved x y z
result_moved op x y z e h = elim (result_kind op x y z e) [ inl number ↦ not_both z number h | inr k ↦ k ]

-- ---- an integer beside a pointer

module _ {A : Type 0} (x y : Operand) (z : ExprType) (integer_x : is_integer x.shape ≡ true) (pointer_y : is_pointer (value_type y.shape) ≡ true) (null_x : x.is_null ≡ false) (number : is_integer z ≡ true) where
  no_pointer_x : is_pointer (value_type x.shape) ≡ true → A
  no_pointer_x h = absurd (false≢true (sym (no_pointer x.shape integer_x) ∙ h))

  no_numbers : (op : BinaryOp) → integer_result op x.shape y.shape ≡ Some z → A
  no_numbers op e =
      let k = both_there (λ (i j : IntType). integer (binary_type op (operand_type op i j))) (integer_of x.shape) (integer_of y.shape) z e in
      absurd (false≢true (sym (no_pointer y.shape (ap is_some k.right_there)) ∙ pointer_y))

  no_moved : IsMoved x y z → A
  no_moved k = elim k.by [
    | inl m ↦ absurd (false≢true (sym (no_pointer y.shape m.1) ∙ pointer_y))
    | inr m ↦ not_both z number (ap is_pointer m.0 ∙ pointer_y)
  ]

  no_alike : (t : ExprType) → given (are_alike (value_type x.shape) (value_type y.shape)) t ≡ Some z → A
  no_alike t e =
      let k = given_true (are_alike (value_type x.shape) (value_type y.shape)) t z e in
      let h = (and_parts (is_object_pointer (value_type x.shape)) (same_type (value_type x.shape) (value_type y.shape)) k.0).0 in
      no_pointer_x (object_pointer (value_type x.shape) (object_of (value_type x.shape)) refl h)

  no_comparison : (t : ExprType) → given (are_comparable x y) t ≡ Some z → A
  no_comparison t e =
      let k = given_true (are_comparable x y) t z e in
      elim (or_cases (is_pointer (value_type x.shape) && same_type (value_type x.shape) (value_type y.shape)) (is_null_beside x y || is_null_beside y x) k.0) [
        | inl h ↦ no_pointer_x (and_parts (is_pointer (value_type x.shape)) (same_type (value_type x.shape) (value_type y.shape)) h).0
        | inr h ↦ elim (or_cases (is_null_beside x y) (is_null_beside y x) h) [
          | inl m ↦ no_pointer_x (and_parts (is_pointer (value_type x.shape)) y.is_null m).0
          | inr m ↦ absurd (false≢true (sym null_x ∙ (and_parts (is_pointer (value_type y.shape)) x.is_null m).1))
        ]
      ]

  no_order : (op : BinaryOp) → order_result op x y ≡ Some z → A
  no_order op e = elim (or_there (integer_result op x.shape y.shape) (given (are_alike (value_type x.shape) (value_type y.shape)) (integer Int)) z e) [ inl k ↦ no_numbers op k | inr k ↦ no_alike (integer Int) k ]

  no_equal : (op : BinaryOp) → equality_result op x y ≡ Some z → A
  no_equal op e = elim (or_there (integer_result op x.shape y.shape) (given (are_comparable x y) (integer Int)) z e) [ inl k ↦ no_numbers op k | inr k ↦ no_comparison (integer Int) k ]

  no_sum : sum_result x y ≡ Some z → A
  no_sum e =
      elim (or_there (integer_result Add x.shape y.shape) (option_or (moved (value_type x.shape) y.shape) (moved (value_type y.shape) x.shape)) z e) [
        | inl k ↦ no_numbers Add k
        | inr k ↦ elim (or_there (moved (value_type x.shape) y.shape) (moved (value_type y.shape) x.shape) z k) [ inl m ↦ no_moved (moved_first x y z m) | inr m ↦ no_moved (moved_second x y z m) ]
      ]

  no_difference : difference_result x y ≡ Some z → A
  no_difference e =
      let alike = are_alike (value_type x.shape) (value_type y.shape) in
      elim (or_there (integer_result Sub x.shape y.shape) (option_or (moved (value_type x.shape) y.shape) (given alike (integer Long))) z e) [
        | inl k ↦ no_numbers Sub k
        | inr k ↦ elim (or_there (moved (value_type x.shape) y.shape) (given alike (integer Long)) z k) [ inl m ↦ no_moved (moved_first x y z m) | inr m ↦ no_alike (integer Long) m ]
      ]

  -- no operator gives a number of an integer that isn't null, and a pointer
  pub no_number : (op : BinaryOp) → binary_result op x y ≡ Some z → A
  no_number Add e = no_sum e
  no_number Sub e = no_difference e
  no_number Less e = no_order Less e
  no_number Greater e = no_order Greater e
  no_number AtMost e = no_order AtMost e
  no_number AtLeast e = no_order AtLeast e
  no_number Equal e = no_equal Equal e
  no_number Unequal e = no_equal Unequal e
  no_number Mul e = no_numbers Mul e
  no_number Div e = no_numbers Div e
  no_number Rem e = no_numbers Rem e
  no_number Shl e = no_numbers Shl e
  no_number Shr e = no_numbers Shr e
  no_number And e = no_numbers And e
  no_number Xor e = no_numbers Xor e
  no_number Or e = no_numbers Or e

array_target : (ls : List Layer) (b : Base) → is_array (record { layers = ls; base = b }) ≡ true → target_of (value_type (record { layers = ls; base = b })) ≡ Some (item_type (record { layers = ls; base = b }))
array_target [] b h = absurd (false≢true h)
array_target (layer.Pointer ∷ ls) b h = absurd (false≢true h)
array_target (layer.Array n ∷ ls) b h = refl

module _ (p : Program) where
  abbrev pub IsListedAs : Location → ExprType → Type 0
  IsListedAs l t = IsIn (locations p) (typed_location p l t)

  -- a pair of a pointer and what it points to
  pub record IsTypedPair (l m : Location) : Type 0 where
    pub pointer : ExprType
    pub pointer_is : IsListedAs l pointer
    pub object : ExprType
    pub object_is : IsListedAs m object
    pub target_is : target_of pointer ≡ Some object

  module _ (once : AreListedOnce p) where
    -- a location has one type
    pub one_type : (l : Location) (t u : ExprType) → IsListedAs l t → IsListedAs l u → t ≡ u
    one_type l t u h k =
        let i = place_of (locations p) (typed_location p l t) h in
        let j = place_of (locations p) (typed_location p l u) k in
        let at_ : (n : ℕ) (v : ExprType) → slice_get (locations p) n ≡ Some (typed_location p l v) → slice_get (location_list p) n ≡ Some l =
        λ n v e. slice_get-map (λ (o : TypedLocation). o.location) (locations p) n ∙ ap (option_map (λ (o : TypedLocation). o.location)) e in
        let same = once.once i.0 j.0 l (at_ i.0 t i.1) (at_ j.0 u j.1) in
        ap (λ (o : TypedLocation). o.type) (some_same (sym i.1 ∙ (ap (slice_get (locations p)) same ∙ j.1)))

    module _ (order : AreStructsInOrder p) (shapes : AreShapes p) (points : TargetsOf) (pairs : (l m : Location) → points l m ≡ true → IsTypedPair l m) where
      abbrev d : Declarations
      d = declarations p

      abbrev of : Expr → Denoted
      of = denoted p points

      -- what a value may point to is of the type that its own points to
      pub record PointsAt (t : ExprType) (m : Location) : Type 0 where
        pub object : ExprType
        pub target_is : target_of (value_type t) ≡ Some object
        pub object_is : IsListedAs m object

      pub record IsFitDenoted (x : Operand) (den : Denoted) : Type 0 where
        pub places : (l : Location) → den.places l ≡ true → IsListedAs l x.shape
        pub points_are : (m : Location) → value_points p points den m ≡ true → PointsAt x.shape m
        pub no_null : (m : Location) → value_points p points den m ≡ true → x.is_null ≡ false
        pub place_null : x.is_place ≡ true → x.is_null ≡ false

      -- ---- parts and targets

      -- a location that has this part
      pub record IsPartOf (h : Part) (places : Places) (m : Location) : Type 0 where
        pub whole : Location
        pub among : places whole ≡ true
        pub part_is : inside whole h ≡ m

      pub part_found : (h : Part) (places : Places) (m : Location) → part_of p h places m ≡ true → IsPartOf h places m
      part_found h places m e =
          let test : TypedLocation → Bool = λ o. places o.location && same_location (inside o.location h) m in
          let k = any_found test (locations p) (and_parts (is_location p m) (list_any test (locations p)) e).1 in
          let b = and_parts (places k.0.location) (same_location (inside k.0.location h) m) k.1.1 in
          record { whole = k.0.location; among = b.0; part_is = locations_are (inside k.0.location h) m b.1 }

      -- what an object may be, and what it may point to then
      module _ (den : Denoted) (t : ExprType) (is_place : den.form.is_place ≡ true) (type : den.form.type ≡ t) (places : (l : Location) → den.places l ≡ true → IsListedAs l t) where
        array_points : (m : Location) → is_array t ≡ true → part_of p part.Element den.places m ≡ true → PointsAt t m
        array_points m array e =
            let k = part_found part.Element den.places m e in
            record {
              object = item_type t;
              target_is = array_target t.layers t.base array;
              object_is = subst (λ (l : Location). IsListedAs l (item_type t)) k.part_is (element_listed p order k.whole t (places k.whole k.among) array);
            }

        target_points : (m : Location) → object_points p points den m ≡ true → PointsAt t m
        target_points m e =
            let both = and_parts (is_pointer den.form.type) (targets p points den.places m) e in
            let test : TypedLocation → Bool = λ o. den.places o.location && points o.location m in
            let k = any_found test (locations p) (and_parts (is_location p m) (list_any test (locations p)) both.1).1 in
            let b = and_parts (den.places k.0.location) (points k.0.location m) k.1.1 in
            let pair = pairs k.0.location m b.1 in
            let same = one_type k.0.location pair.pointer t pair.pointer_is (places k.0.location b.0) in
            let target : target_of t ≡ Some pair.object = subst (λ (z : ExprType). target_of z ≡ Some pair.object) same pair.target_is in
            record { object = pair.object; target_is = ap target_of (pointer_value t (ap is_some target)) ∙ target; object_is = pair.object_is }

        object_pointed : (m : Location) → value_points p points den m ≡ true → PointsAt t m
        object_pointed m e = by_array (is_array_place den.form) refl
          where
            by_array : (b : Bool) → is_array_place den.form ≡ b → PointsAt t m
            by_array true is = array_points m (ap is_array (sym type) ∙ (and_parts den.form.is_place (is_array den.form.type) is).1) (sym (points_of_array p points den m is) ∙ e)
            by_array false is = target_points m (sym (points_of_object p points den m is is_place) ∙ e)

        object_fit : (x : Operand) → a_place t ≡ x → IsFitDenoted x den
        object_fit x same = subst (λ (z : Operand). IsFitDenoted z den) same (record { places = places; points_are = object_pointed; no_null = λ m e. refl; place_null = λ e. refl })

      -- what designates an object where a part of it does
      part_fit : (den : Denoted) (t : ExprType) → den.form.type ≡ t → ((l : Location) → den.places l ≡ true → IsListedAs l t) → ((m : Location) → den.points m ≡ false) → (x : Operand) → a_place t ≡ x → IsFitDenoted x den
      part_fit den t type places none x same = subst (λ (z : Operand). IsFitDenoted z den) same (record { places = places; points_are = λ m e. by_place m e den.form.is_place refl; no_null = λ m e. refl; place_null = λ e. refl })
        where
          by_place : (m : Location) → value_points p points den m ≡ true → (b : Bool) → den.form.is_place ≡ b → PointsAt t m
          by_place m e true is = object_pointed den t is type places m e
          by_place m e false is = absurd (false≢true (sym (none m) ∙ (sym (points_of_value p points den m is) ∙ e)))

      -- what gives a value and designates nothing
      value_fit : (den : Denoted) (t : ExprType) (x : Operand) → a_value t ≡ x → den.form.is_place ≡ false → ((l : Location) → den.places l ≡ false) → ((m : Location) → den.points m ≡ true → PointsAt t m) → IsFitDenoted x den
      value_fit den t x same none empty at_ = subst (λ (z : Operand). IsFitDenoted z den) same (record {
        places = λ l e. absurd (false≢true (sym (empty l) ∙ e));
        points_are = λ m e. at_ m (sym (points_of_value p points den m none) ∙ e);
        no_null = λ m e. refl;
        place_null = λ e. refl;
      })

      nowhere_fit : (den : Denoted) (x : Operand) → x.is_place ≡ false → den.form.is_place ≡ false → ((l : Location) → den.places l ≡ false) → ((m : Location) → den.points m ≡ false) → IsFitDenoted x den
      nowhere_fit den x no_place none empty no_points = record {
        places = λ l e. absurd (false≢true (sym (empty l) ∙ e));
        points_are = λ m e. absurd (false≢true (sym (no_points m) ∙ (sym (points_of_value p points den m none) ∙ e)));
        no_null = λ m e. absurd (false≢true (sym (no_points m) ∙ (sym (points_of_value p points den m none) ∙ e)));
        place_null = λ e. absurd (false≢true (sym no_place ∙ e));
      }

      -- ---- all forms

      abbrev pub IsFitExpr : Expr → Type 0
      IsFitExpr e = (x : Operand) → operand_of d e ≡ Some x → IsFitDenoted x (of e)

      abbrev layer_of : ExprParts IsFitExpr → Expr-F Expr
      layer_of = expr_layer IsFitExpr

      abbrev IsOperand : Expr-F Expr → Operand → Type 0
      IsOperand z x = tree_operand_step d (map-Expr Expr (Option Operand) (operand_of d) z) ≡ Some x

      abbrev step : Expr-F Expr → Denoted
      step z = denoted_step p points (map-Expr Expr Denoted of z)

      element_places : (b : Bool) (f : Designated) (a i : Denoted) (l : Location) → is_array_place a.form ≡ b → (an_element p points f a i).places l ≡ true → value_points p points a l ≡ true
      element_places true f a i l is h =
          points_of_array p points a l is ∙ (sym (ap (λ (c : Bool). (if c then denote.an_object p points f (part_of p part.Element a.places) (denote.either_of a.reads (denote.value_reads p points i)) else denote.an_object p points f (value_points p points a) (denote.reads_either p points a i)).places l) is) ∙ h)
      element_places false f a i l is h =
          sym (ap (λ (c : Bool). (if c then denote.an_object p points f (part_of p part.Element a.places) (denote.either_of a.reads (denote.value_reads p points i)) else denote.an_object p points f (value_points p points a) (denote.reads_either p points a i)).places l) is) ∙ h

      element_place : (b : Bool) (f : Designated) (a i : Denoted) → is_array_place a.form ≡ b → (an_element p points f a i).form ≡ f
      element_place true f a i is = ap (λ (c : Bool). (if c then denote.an_object p points f (part_of p part.Element a.places) (denote.either_of a.reads (denote.value_reads p points i)) else denote.an_object p points f (value_points p points a) (denote.reads_either p points a i)).form) is
      element_place false f a i is = ap (λ (c : Bool). (if c then denote.an_object p points f (part_of p part.Element a.places) (denote.either_of a.reads (denote.value_reads p points i)) else denote.an_object p points f (value_points p points a) (denote.reads_either p points a i)).form) is

      -- an object of what a pointer points to
      behind : (a : Expr) (y : Operand) (t : ExprType) → IsFitDenoted y (of a) → pointed y ≡ Some t → (l : Location) → value_points p points (of a) l ≡ true → IsListedAs l t
      behind a y t h aims l e =
          let k = h.points_are l e in
          subst (IsListedAs l) (some_same (sym k.target_is ∙ object_target (value_type y.shape) t aims)) k.object_is

      selected_shape : (m : MemberId) (t u : ExprType) → selected d m t ≡ Some u → (k : Member) → slice_get (members_of p m.owner) m.index ≡ Some k → shape_of k.shape ≡ u
      selected_shape m t u e k at_ =
          let s = then_there (member_within d m) (struct_of t) u e in
          by_test (s.value == m.owner) s.same (λ is there. some_same (sym (ap (option_map (λ (z : Member). shape_of z.shape)) at_) ∙ there)) (λ is none. none_there none)

      member_places : (m : MemberId) (t u : ExprType) (places : Places) → selected d m t ≡ Some u → ((l : Location) → places l ≡ true → IsListedAs l t) → (l : Location) → part_of p (part.Member m.index) places l ≡ true → IsListedAs l u
      member_places m t u places e at_ l h =
          let k = part_found (part.Member m.index) places l h in
          let g = selected_member p m t u e in
          let shape = selected_shape m t u e g.member g.member_is in
          let struct : IsListedAs k.whole (of_base (base.Struct m.owner)) = subst (IsListedAs k.whole) g.struct_is (at_ k.whole k.among) in
          subst (IsListedAs l) shape (subst (λ (z : Location). IsListedAs z (shape_of g.member.shape)) k.part_is (member_there p order k.whole m.owner m.index g.member g.member_is struct))

      layer_fit : (y : ExprParts IsFitExpr) (x : Operand) → IsOperand (layer_of y) x → (step (layer_of y)).form.type ≡ x.shape → IsFitDenoted x (step (layer_of y))
      layer_fit (Expr-F.Constant text k v) x e whole = nowhere_fit (step (Expr-F.Constant text k v)) x (ap (λ (o : Operand). o.is_place) (sym (some_same e))) refl (λ l. refl) (λ m. refl)
      layer_fit Expr-F.Null x e whole = nowhere_fit (step Expr-F.Null) x (ap (λ (o : Operand). o.is_place) (sym (some_same e))) refl (λ l. refl) (λ m. refl)
      layer_fit Expr-F.Eof x e whole = nowhere_fit (step Expr-F.Eof) x (ap (λ (o : Operand). o.is_place) (sym (some_same e))) refl (λ l. refl) (λ m. refl)
      layer_fit (Expr-F.Variable v) x e whole =
          let k = map_there a_place (variable_shape d v) x e in
          let type = variable_type p v k.value k.there in
          object_fit (step (Expr-F.Variable v)) k.value refl type
          (λ l h. subst (λ (z : Location). IsListedAs z k.value) (locations_are (variable v) l h) (subst (IsListedAs (variable v)) type (variable_listed p v (record { path = []; type = type_of_variable p v }) (variable_below p v k.value k.there) (itself_in p order (type_of_variable p v))))) x k.same
      layer_fit (Expr-F.Unary op a) x e whole =
          let k = of_one (λ (y : Operand). unary_result op (value_type y.shape)) a_value (operand_of d a.0) x e in
          nowhere_fit (step (layer_of (Expr-F.Unary op a))) x (ap (λ (o : Operand). o.is_place) (sym k.same)) refl (λ l. refl) (λ m. refl)
      layer_fit (Expr-F.Deref a) x e whole =
          let k = of_one pointed a_place (operand_of d a.0) x e in
          object_fit (step (layer_of (Expr-F.Deref a))) k.type refl (whole ∙ ap (λ (o : Operand). o.shape) (sym k.same)) (behind a.0 k.first k.type (a.1 k.first k.first_is) k.type_is) x k.same
      layer_fit (Expr-F.AddressOf a) x e whole =
          let k = of_one address_result a_value (operand_of d a.0) x e in
          let g = given_true (k.first.is_place && not (is_array k.first.shape)) _ k.type k.type_is in
          let h = a.1 k.first k.first_is in
          value_fit (step (layer_of (Expr-F.AddressOf a))) k.type x k.same refl (λ l. refl)
          (λ m into. subst (λ (z : ExprType). PointsAt z m) g.1 (record { object = k.first.shape; target_is = refl; object_is = h.places m into }))
      layer_fit (Expr-F.Binary op a b) x e whole =
          let k = of_two (binary_result op) a_value (operand_of d a.0) (operand_of d b.0) x e in
          let ha = a.1 k.first k.first_is in
          let hb = b.1 k.second k.second_is in
          let type : (step (layer_of (Expr-F.Binary op a b))).form.type ≡ k.type = whole ∙ ap (λ (o : Operand). o.shape) (sym k.same) in
          value_fit (step (layer_of (Expr-F.Binary op a b))) k.type x k.same refl (λ l. refl)
          (λ m into.
          let both = and_parts (is_pointer (step (layer_of (Expr-F.Binary op a b))).form.type) (value_points p points (of a.0) m || value_points p points (of b.0) m) into in
          let pointer : is_pointer k.type ≡ true = ap is_pointer (sym type) ∙ both.0 in
          operand_points k.first k.second k.type m pointer (result_moved op k.first k.second k.type k.type_is pointer) (either_points (of a.0) (of b.0) k.first k.second m ha hb both.1))
        where
          either_points : (da db : Denoted) (y z : Operand) (m : Location) → IsFitDenoted y da → IsFitDenoted z db → (value_points p points da m || value_points p points db m) ≡ true → PointsAt y.shape m ⊎ PointsAt z.shape m
          either_points da db y z m ha hb e = elim (or_cases (value_points p points da m) (value_points p points db m) e) [ inl h ↦ inl (ha.points_are m h) | inr h ↦ inr (hb.points_are m h) ]

          no_integer : {A : Type 0} (t : ExprType) (m : Location) → is_integer t ≡ true → PointsAt t m → A
          no_integer t m i h = absurd (false≢true (sym (no_pointer t i) ∙ ap is_some h.target_is))

          again : (t z : ExprType) (m : Location) → z ≡ value_type t → is_pointer z ≡ true → PointsAt t m → PointsAt z m
          again t z m same pointer h = record { object = h.object; target_is = ap target_of (pointer_value z pointer ∙ same) ∙ h.target_is; object_is = h.object_is }

          operand_points : (y z : Operand) (t : ExprType) (m : Location) → is_pointer t ≡ true → IsMoved y z t → PointsAt y.shape m ⊎ PointsAt z.shape m → PointsAt t m
          operand_points y z t m pointer moved_ (inl h) = elim moved_.by [ inl k ↦ again y.shape t m k.0 pointer h | inr k ↦ no_integer y.shape m k.1 h ]
          operand_points y z t m pointer moved_ (inr h) = elim moved_.by [ inl k ↦ no_integer z.shape m k.1 h | inr k ↦ again z.shape t m k.0 pointer h ]
      layer_fit (Expr-F.AndAlso a b) x e whole =
          let k = of_two logical_result a_value (operand_of d a.0) (operand_of d b.0) x e in
          nowhere_fit (step (layer_of (Expr-F.AndAlso a b))) x (ap (λ (o : Operand). o.is_place) (sym k.same)) refl (λ l. refl) (λ m. refl)
      layer_fit (Expr-F.OrElse a b) x e whole =
          let k = of_two logical_result a_value (operand_of d a.0) (operand_of d b.0) x e in
          nowhere_fit (step (layer_of (Expr-F.OrElse a b))) x (ap (λ (o : Operand). o.is_place) (sym k.same)) refl (λ l. refl) (λ m. refl)
      layer_fit (Expr-F.Choose c a b) x e whole =
          let k = of_one (λ (u : Operand). option_and_then (λ (y : Operand). option_and_then (choose_result u y) (operand_of d b.0)) (operand_of d a.0)) a_value (operand_of d c.0) x e in
          let ka = then_there (λ (y : Operand). option_and_then (choose_result k.first y) (operand_of d b.0)) (operand_of d a.0) k.type k.type_is in
          let kb = then_there (choose_result k.first ka.value) (operand_of d b.0) k.type ka.same in
          let r = then_there (λ (t : ExprType). given (is_scalar (value_type k.first.shape)) t) (chosen_result ka.value kb.value) k.type kb.same in
          let w = subst (IsChoice ka.value kb.value) (given_true (is_scalar (value_type k.first.shape)) r.value k.type r.same).1 (choice ka.value kb.value r.value r.there) in
          let ha = a.1 ka.value ka.there in
          let hb = b.1 kb.value kb.there in
          let z = step (layer_of (Expr-F.Choose c a b)) in
          let type : z.form.type ≡ k.type = whole ∙ ap (λ (o : Operand). o.shape) (sym k.same) in
          value_fit z k.type x k.same refl (λ l. refl)
          (λ m into.
          let both = and_parts (is_pointer z.form.type) (value_points p points (of a.0) m || value_points p points (of b.0) m) into in
          let pointer : is_pointer k.type ≡ true = ap is_pointer (sym type) ∙ both.0 in
          elim (or_cases (value_points p points (of a.0) m) (value_points p points (of b.0) m) both.1) [
            | inl h ↦ chosen ka.value (of a.0) k.type m pointer ha h w.first
            | inr h ↦ chosen kb.value (of b.0) k.type m pointer hb h w.second
          ])
        where
          chosen : (y : Operand) (dy : Denoted) (t : ExprType) (m : Location) → is_pointer t ≡ true → IsFitDenoted y dy → value_points p points dy m ≡ true → (y.is_null ≡ true) ⊎ (is_pointer (value_type y.shape) ≡ true → value_type y.shape ≡ t) → PointsAt t m
          chosen y dy t m pointer h e (inl null) = absurd (false≢true (sym (h.no_null m e) ∙ null))
          chosen y dy t m pointer h e (inr same) =
              let q = h.points_are m e in
              let is = same (ap is_some q.target_is) in
              record { object = q.object; target_is = ap target_of (pointer_value t pointer ∙ sym is) ∙ q.target_is; object_is = q.object_is }
      layer_fit (Expr-F.Cast i a) x e whole =
          let k = of_one (cast_result i) a_value (operand_of d a.0) x e in
          nowhere_fit (step (layer_of (Expr-F.Cast i a))) x (ap (λ (o : Operand). o.is_place) (sym k.same)) refl (λ l. refl) (λ m. refl)
      layer_fit (Expr-F.Index a i) x e whole =
          let k = of_two indexed a_place (operand_of d a.0) (operand_of d i.0) x e in
          let t = then_there (λ (u : ExprType). given (is_integer k.second.shape) u) (pointed k.first) k.type k.type_is in
          let same : t.value ≡ k.type = (given_true (is_integer k.second.shape) t.value k.type t.same).1 in
          let array = is_array_place (of a.0).form in
          let z = step (layer_of (Expr-F.Index a i)) in
          object_fit z k.type (place_form a.0 i.0) (whole ∙ ap (λ (o : Operand). o.shape) (sym k.same))
          (λ l h. subst (IsListedAs l) same (behind a.0 k.first t.value (a.1 k.first k.first_is) t.there l (element_places array _ (of a.0) (of i.0) l refl h))) x k.same
        where
          form_place : (b : Bool) (t : ExprType) (da di : Designated) → is_array_place da ≡ b → (designate.an_element t da di).is_place ≡ true
          form_place true t da di is = ap (λ (c : Bool). (if c then designate.a_place t da.root None (λ z. da.takes z || designate.value_takes di z) else designate.a_place t None None (designate.takes_either da di)).is_place) is
          form_place false t da di is = ap (λ (c : Bool). (if c then designate.a_place t da.root None (λ z. da.takes z || designate.value_takes di z) else designate.a_place t None None (designate.takes_either da di)).is_place) is

          place_form : (a i : Expr) → (step (Expr-F.Index a i)).form.is_place ≡ true
          place_form a i = ap (λ (f : Designated). f.is_place) (element_place (is_array_place (of a).form) _ (of a) (of i) refl) ∙ form_place (is_array_place (of a).form) _ (of a).form (of i).form refl
      layer_fit (Expr-F.Member a m) x e whole =
          let k = of_one (λ (y : Operand). selected d m y.shape) a_place (operand_of d a.0) x e in
          let h = a.1 k.first k.first_is in
          member_fit a.0 m k.first k.type x k.first_is k.type_is k.same h (whole ∙ ap (λ (o : Operand). o.shape) (sym k.same))
        where
          member_fit : (a : Expr) (m : MemberId) (y : Operand) (t : ExprType) (x : Operand) → operand_of d a ≡ Some y → selected d m y.shape ≡ Some t → a_place t ≡ x → IsFitDenoted y (of a) → (step (Expr-F.Member a m)).form.type ≡ t → IsFitDenoted x (step (Expr-F.Member a m))
          member_fit a m y t x is e same h type = part_fit (step (Expr-F.Member a m)) t type (member_places m y.shape t (of a).places e h.places) (λ l. refl) x same
      layer_fit (Expr-F.Arrow a m) x e whole =
          let k = of_one (λ (y : Operand). option_and_then (selected d m) (pointed y)) a_place (operand_of d a.0) x e in
          let t = then_there (selected d m) (pointed k.first) k.type k.type_is in
          object_fit (step (layer_of (Expr-F.Arrow a m))) k.type refl (whole ∙ ap (λ (o : Operand). o.shape) (sym k.same))
          (member_places m t.value k.type (value_points p points (of a.0)) t.same (behind a.0 k.first t.value (a.1 k.first k.first_is) t.there)) x k.same
      layer_fit (Expr-F.Paren a) x e whole = let h = a.1 x e in record { places = h.places; points_are = h.points_are; no_null = h.no_null; place_null = h.place_null }

      rolled : (y : ExprParts IsFitExpr) → IsFitExpr (roll-Expr (layer_of y))
      rolled y x h =
          let z = layer_of y in
          let operand : IsOperand z x = sym (fold-roll-Expr (Option Operand) (tree_operand_step d) z) ∙ h in
          let whole = sym (ap (λ (k : Denoted). k.form.type) (fold-roll-Expr Denoted (denoted_step p points) z)) ∙ (has_type p points (roll-Expr z) ∙ shapes (roll-Expr z) x h) in
          subst (IsFitDenoted x) (sym (fold-roll-Expr Denoted (denoted_step p points) z)) (layer_fit y x operand whole)

      -- what an expression of a program may name and point to
      pub expr_fit : (e : Expr) → IsFitExpr e
      expr_fit = of_every_expr IsFitExpr rolled
