-- Each pair of points-to ends in a location of what its pointer's type points to.
use Rattle.std.proofs.Common.{◌≡◌, ℕ, zero, suc, ◌+◌, List, [], ◌∷◌, ◌++◌, Option, Some, None, Bool, true, false, ◌&&◌, ◌||◌, inl, inr, refl, sym, ap, ◌∙◌, subst, arith}
use Rattle.std.specs.Prelude.{not, nat_lt, length, is_some, unwrap_or, slice_get}
use Rattle.std.specs.List.{list_all}
use Rattle.std.specs.Option.{option_map_or}
use Rattle.std.proofs.lemmas.Bool.{false≢true, and_parts, or_cases}
use Rattle.c_arith.specs.declared.operators.BinaryOp.{BinaryOp}
use Rattle.c_language.proofs.Options.{none_there, some_same}
use Rattle.c_tree.specs.declared.expr.Expr.{Expr}
use Rattle.c_tree.specs.declared.program.Function.{Function}
use Rattle.c_tree.specs.declared.program.Init.{Init}
use Rattle.c_tree.specs.declared.program.Init.TheVariants as init
use Rattle.c_tree.specs.declared.program.Item.{Item}
use Rattle.c_tree.specs.declared.program.Item.TheVariants as item
use Rattle.c_tree.specs.declared.program.Program.{Program}
use Rattle.c_tree.specs.declared.statement.Amount.{Amount}
use Rattle.c_tree.specs.declared.statement.Target.{Target}
use Rattle.c_tree.specs.declared.statement.Target.TheVariants as target
use Rattle.c_tree.specs.declared.types.CType.{CType}
use Rattle.c_language.specs.ArrayRules.{element_of, count_of}
use Rattle.c_language.specs.Code.{Act, Begins, Sets, Bumps, Fetches, Writes, Prints, Allocates, Frees, Returns, Tests}
use Rattle.c_language.specs.DeclaredTypes.{void}
use Rattle.c_language.specs.ExprRules.{holds_of}
use Rattle.c_language.specs.declared.expr_type.Base.{Base}
use Rattle.c_language.specs.declared.expr_type.Layer.{Layer}
use Rattle.c_language.specs.declared.expr_type.Layer.TheVariants as layer
use Rattle.c_language.specs.declared.expr_type.ExprType.{ExprType}
use Rattle.c_language.specs.declared.expr_type.Operand.{Operand}
use Rattle.c_language.specs.ExprTypes.{a_value, value_type, is_array, is_integer, is_pointer, is_scalar, target_of, same_type, is_assignable, binary_result}
use Rattle.c_language.specs.TreeTypes.{shape_of, pointee, type_of_variable}
use Rattle.dep_model.specs.declared.location.Location.{Location}
use Rattle.dep_model.specs.declared.location.Root.TheVariants.{Result}
use Rattle.dep_model.specs.declared.location.Part.TheVariants as part
use Rattle.dep_model.specs.Denoted.{Places, TargetsOf, variable, whole, part_of, expr_points, expr_places}
use Rattle.dep_model.specs.Doings.{Doing, Does, Calls}
use Rattle.dep_model.specs.DoingEffects.{target_places, result_of}
use Rattle.dep_model.specs.LocationLists.{AreListedOnce, AreStructsInOrder}
use Rattle.dep_model.specs.Locations.{Located, target_type, function_heaps, same_location, placed, parts, variable_locations, site_locations, result_parts, result_locations, locations}
use Rattle.dep_model.specs.MayPoint.{Pointing, pointing, site, parameters, listed, init_pointings, returned, act_pointings, passed, doing_pointings, item_pointings, IsPointing, of_statement, of_global, MayPoint, by}
use Rattle.dep_model.proofs.LocationsOnce.{listed_once}
use Rattle.dep_model.proofs.Membership.{IsIn, in_of_contains, contains_of_in, in_first, in_second, in_map}
use Rattle.dep_model.proofs.StructOrder.{well_formed_in_order}
use Rattle.numbered_texts.proofs.Listed.{locations_are}
use Rattle.numbered_texts.proofs.NumbersButLines.{statements_numbered}
use Rattle.run_facts.specs.Laws.{TargetsHaveTheType}
use Rattle.run_facts.specs.PointerLocations.{item_type}
use Rattle.run_facts.proofs.AssignedValues.{not_both}
use Rattle.run_facts.proofs.ExprsDenoted.{AreShapes, no_pointer}
use Rattle.run_facts.proofs.ListedObjects.{typed_location, variable_listed, site_listed}
use Rattle.run_facts.proofs.PartsOfParts.{element_listed}
use Rattle.run_facts.proofs.PointedTypes.{IsListedAs, IsTypedPair, one_type, PointsAt, part_found, expr_fit, result_kind, no_number}
use Rattle.run_facts.proofs.Subobjects.{itself_in}
use Rattle.run_facts.proofs.TypedActs.{variable_type, pointer_value}
use Rattle.run_facts.proofs.TypedParts.{variable_below, StandsIn, stands_in, doing_heap, doing_fit}
use Rattle.run_facts.proofs.TypedRuns.{CallsFunction, called_function}
use Rattle.run_facts.proofs.TypeTests.{type_is}
use Rattle.typed_programs.specs.TreeOperands.{Declarations, declarations, variable_shape, operand_of}
use Rattle.typed_programs.specs.TypedStatements.{passes, is_left_side, takes, assigns, sets, lists, begins_with, begins, holds_objects, allocates, returns, act_fits, item_fits, IsTyped}
use Rattle.typed_programs.specs.TypedStatements as fits
use Rattle.typed_programs.specs.FixedValues.{begins_fixed}
use Rattle.typed_programs.proofs.TreeTypes.{type_is as of_operand}
use Rattle.typed_programs.proofs.TypedPrograms.{programs_typed}
use Rattle.typed_programs.proofs.TypedUses.{holds_there, operand_there}

-- what the elements of an array are
element_is : (ls : List Layer) (b : Base) (u : ExprType) → element_of (record { layers = ls; base = b }) ≡ Some u → (is_array (record { layers = ls; base = b }) ≡ true) × (item_type (record { layers = ls; base = b }) ≡ u)
element_is [] b u e = none_there e
element_is (layer.Pointer ∷ ls) b u e = none_there e
element_is (layer.Array n ∷ ls) b u e = (refl, some_same e)

passes_at : {A : Type 0} (test : A → Bool) (xs : List A) (x : A) → list_all test xs ≡ true → IsIn xs x → test x ≡ true
passes_at test [] x h i = absurd i
passes_at test (y ∷ xs) x h (inl is) = subst (λ z. test z ≡ true) is (and_parts (test y) (list_all test xs) h).0
passes_at test (y ∷ xs) x h (inr i) = passes_at test xs x (and_parts (test y) (list_all test xs) h).1 i

module _ (p : Program) where
  abbrev d : Declarations
  d = declarations p

  results_listed : (fs : List Function) (f n : ℕ) (g : Function) (c : CType) → slice_get fs f ≡ Some g → g.result ≡ Some c → (k : Located) → IsIn (parts p (shape_of c)) k → IsIn (result_locations p n fs) (placed (Result (n + f)) k)
  results_listed [] f n g c at_ is k i = none_there at_
  results_listed (h ∷ fs) zero n g c at_ is k i =
      let same : n + zero ≡ n = omega arith in
      let here : h.result ≡ Some c = ap (λ (z : Function). z.result) (some_same at_) ∙ is in
      in_first (result_parts p n h.result) (result_locations p (suc n) fs) (placed (Result (n + zero)) k)
      (subst (λ j. IsIn (result_parts p n h.result) (placed (Result j) k)) (sym same) (subst (λ (o : Option CType). IsIn (result_parts p n o) (placed (Result n) k)) (sym here) (in_map (placed (Result n)) (parts p (shape_of c)) k i)))
  results_listed (h ∷ fs) (suc f) n g c at_ is k i =
      let same : suc n + f ≡ n + suc f = omega arith in
      in_second (result_parts p n h.result) (result_locations p (suc n) fs) (placed (Result (n + suc f)) k)
      (subst (λ j. IsIn (result_locations p (suc n) fs) (placed (Result j) k)) same (results_listed fs f (suc n) g c at_ is k i))

  module _ (order : AreStructsInOrder p) where
    result_listed : (f : ℕ) (g : Function) (c : CType) → slice_get p.functions f ≡ Some g → g.result ≡ Some c → IsListedAs p (result_of f) (shape_of c)
    result_listed f g c at_ is =
        let none : 0 + f ≡ f = omega arith in
        let sites = site_locations p (function_heaps p p.functions) in
        inr (in_second (variable_locations p 0 p.vars) (sites ++ result_locations p 0 p.functions) (typed_location p (result_of f) (shape_of c))
        (in_second sites (result_locations p 0 p.functions) (typed_location p (result_of f) (shape_of c)) (subst (λ j. IsIn (result_locations p 0 p.functions) (typed_location p (result_of j) (shape_of c))) none (results_listed p.functions f 0 g c at_ is (record { path = []; type = shape_of c }) (itself_in p order (shape_of c))))))

    whole_listed : (x : ℕ) (t : ExprType) → variable_shape d x ≡ Some t → (l : Location) → whole x l ≡ true → IsListedAs p l t
    whole_listed x t e l h =
        let type = variable_type p x t e in
        subst (λ (z : Location). IsListedAs p z t) (locations_are (variable x) l h) (subst (IsListedAs p (variable x)) type (variable_listed p x (record { path = []; type = type_of_variable p x }) (variable_below p x t e) (itself_in p order (type_of_variable p x))))

    module _ (once : AreListedOnce p) (shapes : AreShapes p) (typed : IsTyped p) (points : TargetsOf) (pairs : (l m : Location) → points l m ≡ true → IsTypedPair p l m) where
      abbrev Listed : Places → ExprType → Type 0
      Listed places t = (l : Location) → places l ≡ true → IsListedAs p l t

      abbrev AreTyped : Places → Places → Type 0
      AreTyped into from = (l m : Location) → into l ≡ true → from m ≡ true → IsTypedPair p l m

      abbrev At : ExprType → Location → Type 0
      At t m = PointsAt p once order shapes points pairs t m

      no_integer : {A : Type 0} (t : ExprType) (m : Location) → is_integer t ≡ true → At t m → A
      no_integer t m i h = absurd (false≢true (sym (no_pointer t i) ∙ ap is_some h.target_is))

      -- an object takes what it may point to
      assigned_pair : (t : ExprType) (x : Operand) (l m : Location) → is_assignable t x ≡ true → x.is_null ≡ false → At x.shape m → IsListedAs p l t → IsTypedPair p l m
      assigned_pair t x l m h null at_ here = elim (or_cases (is_integer t && is_integer x.shape) (is_pointer t && (same_type t (value_type x.shape) || x.is_null)) h) [
        | inl i ↦ no_integer x.shape m (and_parts (is_integer t) (is_integer x.shape) i).1 at_
        | inr k ↦ elim (or_cases (same_type t (value_type x.shape)) x.is_null (and_parts (is_pointer t) (same_type t (value_type x.shape) || x.is_null) k).1) [
          | inl same ↦ record { pointer = t; pointer_is = here; object = at_.object; object_is = at_.object_is; target_is = ap target_of (type_is t (value_type x.shape) same) ∙ at_.target_is }
          | inr none ↦ absurd (false≢true (sym null ∙ none))
        ]
      ]

      value_pairs : (places : Places) (t : ExprType) (e : Expr) → Listed places t → takes d e t ≡ true → AreTyped places (expr_points p points e)
      value_pairs places t e here h l m into from =
          let x = operand_there d (is_assignable t) e h in
          let k = expr_fit p once order shapes points pairs e x.0 x.1 in
          assigned_pair t x.0 l m x.2 (k.no_null m from) (k.points_are m from) (here l into)

      left_listed : (e : Expr) (x : Operand) → operand_of d e ≡ Some x → Listed (expr_places p points e) x.shape
      left_listed e x is = (expr_fit p once order shapes points pairs e x is).places

      -- ---- what a variable begins with

      item_pairs : (x : ℕ) (t : ExprType) (es : List Expr) → Listed (part_of p part.Element (whole x)) t → list_all (λ (e : Expr). takes d e t) es ≡ true → (z : Pointing) → IsIn (listed p points x es) z → AreTyped z.into z.from
      item_pairs x t [] here h z i = absurd i
      item_pairs x t (e ∷ es) here h z (inl same) =
          subst (λ (w : Pointing). AreTyped w.into w.from) same (value_pairs (part_of p part.Element (whole x)) t e here (and_parts (takes d e t) (list_all (λ (a : Expr). takes d a t) es) h).0)
      item_pairs x t (e ∷ es) here h z (inr i) = item_pairs x t es here (and_parts (takes d e t) (list_all (λ (a : Expr). takes d a t) es) h).1 z i

      elements_listed : (x : ℕ) (t u : ExprType) → variable_shape d x ≡ Some t → element_of t ≡ Some u → Listed (part_of p part.Element (whole x)) u
      elements_listed x t u e is l h =
          let k = part_found p once order shapes points pairs part.Element (whole x) l h in
          let w = element_is t.layers t.base u is in
          subst (IsListedAs p l) w.1 (subst (λ (z : Location). IsListedAs p z (item_type t)) k.part_is (element_listed p order k.whole t (whole_listed x t e k.whole k.among) w.0))

      init_pairs : (x : ℕ) (i : Init) → begins d x i ≡ true → (z : Pointing) → IsIn (init_pointings p points x i) z → AreTyped z.into z.from
      init_pairs x init.None h z i = absurd i
      init_pairs x (init.One e) h z (inr none) = absurd none
      init_pairs x (init.One e) h z (inl same) =
          let t = holds_there (begins_with d (init.One e)) (variable_shape d x) h in
          subst (λ (w : Pointing). AreTyped w.into w.from) same (value_pairs (whole x) t.0 e (whole_listed x t.0 t.1) (and_parts (is_scalar t.0) (takes d e t.0) t.2).1)
      init_pairs x (init.Items es) h z i =
          let t = holds_there (begins_with d (init.Items es)) (variable_shape d x) h in
          let u = holds_there (λ (w : ExprType). holds_of (lists d es w) (count_of t.0)) (element_of t.0) t.2 in
          let n = holds_there (lists d es u.0) (count_of t.0) u.2 in
          let k = and_parts (is_scalar u.0) (not (nat_lt n.0 (length es)) && list_all (λ (e : Expr). takes d e u.0) es) n.2 in
          item_pairs x u.0 es (elements_listed x t.0 u.0 t.1 u.1) (and_parts (not (nat_lt n.0 (length es))) (list_all (λ (e : Expr). takes d e u.0) es) k.1).1 z i

      -- ---- targets

      -- a target takes what a value of this type may point to
      target_pairs : (to : Target) (t : ExprType) (l m : Location) → fits.stores d to (a_value t) ≡ true → At t m → target_places p points to l ≡ true → IsTypedPair p l m
      target_pairs target.None t l m h at_ into = absurd (false≢true into)
      target_pairs (target.Place e) t l m h at_ into =
          let k = and_parts (passes d is_left_side e) (passes d (λ (x : Operand). is_assignable x.shape (a_value t)) e) h in
          let x = operand_there d (λ (y : Operand). is_assignable y.shape (a_value t)) e k.1 in
          assigned_pair x.0.shape (a_value t) l m x.2 refl at_ (left_listed e x.0 x.1 l into)
      target_pairs (target.Declared x) t l m h at_ into =
          let u = holds_there (λ (w : ExprType). is_scalar w && is_assignable w (a_value t)) (variable_shape d x) h in
          assigned_pair u.0 (a_value t) l m (and_parts (is_scalar u.0) (is_assignable u.0 (a_value t)) u.2).1 refl at_ (whole_listed x u.0 u.1 l into)

      heap_pair : (i : ℕ) (to : Target) (t : ExprType) (n : Amount) (l m : Location) → IsIn (function_heaps p p.functions) (record { id = i; elements = pointee (target_type p to) }) → target_type p to ≡ t → holds_objects d n t ≡ true → IsListedAs p l t → same_location (site i) m ≡ true → IsTypedPair p l m
      heap_pair i to t n l m heap type h here from =
          let o = holds_there (fits.asks d n) (target_of t) h in
          let itself = pointer_value t (ap is_some o.1) in
          let same : pointee (target_type p to) ≡ o.0 = ap pointee type ∙ ap (λ (z : Option ExprType). unwrap_or z void) (ap target_of itself ∙ o.1) in
          let objects = site_listed p (record { id = i; elements = pointee (target_type p to) }) (record { path = []; type = pointee (target_type p to) }) heap (itself_in p order (pointee (target_type p to))) in
          record {
            pointer = t;
            pointer_is = here;
            object = o.0;
            object_is = subst (IsListedAs p m) same (subst (λ (z : Location). IsListedAs p z (pointee (target_type p to))) (locations_are (site i) m from) objects);
            target_is = o.1;
          }

      allocated_pairs : (i : ℕ) (to : Target) (n : Amount) → IsIn (function_heaps p p.functions) (record { id = i; elements = pointee (target_type p to) }) → allocates d to n ≡ true → AreTyped (target_places p points to) (same_location (site i))
      allocated_pairs i target.None n heap h l m into from = absurd (false≢true into)
      allocated_pairs i (target.Place e) n heap h l m into from =
          let k = and_parts (passes d is_left_side e) (passes d (λ (x : Operand). holds_objects d n x.shape) e) h in
          let x = operand_there d (λ (y : Operand). holds_objects d n y.shape) e k.1 in
          heap_pair i (target.Place e) x.0.shape n l m heap (shapes e x.0 x.1) x.2 (left_listed e x.0 x.1 l into) from
      allocated_pairs i (target.Declared x) n heap h l m into from =
          let t = holds_there (holds_objects d n) (variable_shape d x) h in
          heap_pair i (target.Declared x) t.0 n l m heap (variable_type p x t.0 t.1) t.2 (whole_listed x t.0 t.1 l into) from

      -- ---- assignments

      -- a compound assignment has no pointer on its right
      compound_none : {A : Type 0} (op : BinaryOp) (x y : Operand) (z : ExprType) (m : Location) → x.is_null ≡ false → binary_result op x y ≡ Some z → is_assignable x.shape (a_value z) ≡ true → At y.shape m → A
      compound_none op x y z m null e h at_ = elim (or_cases (is_integer x.shape && is_integer z) (is_pointer x.shape && (same_type x.shape (value_type z) || false)) h) [
        | inl k ↦
            let b = and_parts (is_integer x.shape) (is_integer z) k in
            no_number x y z b.0 (ap is_some at_.target_is) null b.1 op e
        | inr k ↦
            let b = and_parts (is_pointer x.shape) (same_type x.shape (value_type z) || false) k in
            elim (or_cases (same_type x.shape (value_type z)) false b.1) [
              | inl same ↦ elim (result_kind op x y z e) [
                | inl number ↦ absurd (false≢true (sym (no_pointer z number) ∙ (ap is_pointer (sym (type_is x.shape (value_type z) same)) ∙ b.0)))
                | inr moved ↦ elim moved.by [ inl g ↦ no_integer y.shape m g.1 at_ | inr g ↦ not_both x.shape g.1 b.0 ]
              ]
              | inr none ↦ absurd (false≢true none)
            ]
      ]

      sets_pairs : (left : Expr) (op : Option BinaryOp) (right : Expr) → sets d left op right ≡ true → AreTyped (expr_places p points left) (expr_points p points right)
      sets_pairs left None right h l m into from =
          let k = and_parts (passes d is_left_side left) (passes d (λ (x : Operand). passes d (assigns None x) right) left) h in
          let x = operand_there d (λ (y : Operand). passes d (assigns None y) right) left k.1 in
          value_pairs (expr_places p points left) x.0.shape right (left_listed left x.0 x.1) x.2 l m into from
      sets_pairs left (Some op) right h l m into from =
          let k = and_parts (passes d is_left_side left) (passes d (λ (x : Operand). passes d (assigns (Some op) x) right) left) h in
          let w = operand_there d is_left_side left k.0 in
          let x = operand_there d (λ (y : Operand). passes d (assigns (Some op) y) right) left k.1 in
          let same : w.0 ≡ x.0 = some_same (sym w.1 ∙ x.1) in
          let y = operand_there d (assigns (Some op) x.0) right x.2 in
          let z = holds_there (λ (t : ExprType). is_assignable x.0.shape (a_value t)) (binary_result op x.0 y.0) y.2 in
          let place : x.0.is_place ≡ true = ap (λ (o : Operand). o.is_place) (sym same) ∙ (and_parts w.0.is_place (is_scalar w.0.shape) w.2).0 in
          compound_none op x.0 y.0 z.0 m ((expr_fit p once order shapes points pairs left x.0 x.1).place_null place) z.1 z.2 ((expr_fit p once order shapes points pairs right y.0 y.1).points_are m from)

      -- ---- statements

      abbrev Fit : Pointing → Type 0
      Fit z = AreTyped z.into z.from

      one_fit : (a z : Pointing) → IsIn (a ∷ []) z → Fit a → Fit z
      one_fit a z (inl same) h = subst Fit same h
      one_fit a z (inr none) h = absurd none

      returned_pairs : (f : ℕ) (g : Function) → slice_get p.functions f ≡ Some g → (o : Option Expr) → returns d g.result o ≡ true → (z : Pointing) → IsIn (returned p points f o) z → Fit z
      returned_pairs f g at_ None h z i = absurd i
      returned_pairs f g at_ (Some e) h z i =
          let c = holds_there (λ (t : CType). takes d e (shape_of t)) g.result h in
          one_fit (pointing (same_location (result_of f)) (expr_points p points e)) z i
          (value_pairs (same_location (result_of f)) (shape_of c.0) e (λ l into. subst (λ (k : Location). IsListedAs p k (shape_of c.0)) (locations_are (result_of f) l into) (result_listed f g c.0 at_ c.1)) c.2)

      act_pairs : (f i : ℕ) (a : Act) → (k : StandsIn p f (Does i a)) → (z : Pointing) → IsIn (act_pointings p points f i a) z → Fit z
      act_pairs f i (Begins x n) k z c = init_pairs x n (doing_fit p typed f (Does i (Begins x n)) k) z c
      act_pairs f i (Sets left op right) k z c = one_fit (pointing (expr_places p points left) (expr_points p points right)) z c (sets_pairs left op right (doing_fit p typed f (Does i (Sets left op right)) k))
      act_pairs f i (Bumps left up) k z c = absurd c
      act_pairs f i (Fetches to) k z c = absurd c
      act_pairs f i (Writes e) k z c = absurd c
      act_pairs f i (Prints format args) k z c = absurd c
      act_pairs f i (Allocates to n) k z c =
          one_fit (pointing (target_places p points to) (same_location (site i))) z c
          (allocated_pairs i to n (doing_heap p f (Does i (Allocates to n)) k (record { id = i; elements = pointee (target_type p to) }) (inl refl)) (doing_fit p typed f (Does i (Allocates to n)) k))
      act_pairs f i (Frees e) k z c = absurd c
      act_pairs f i (Returns e) k z c = returned_pairs f k.function k.function_is e (doing_fit p typed f (Does i (Returns e)) k) z c
      act_pairs f i (Tests e) k z c = absurd c

      argument_pairs : (xs : List ℕ) (es : List Expr) → fits.passed d xs es ≡ true → (z : Pointing) → IsIn (passed p points xs es) z → Fit z
      argument_pairs [] es h z i = absurd i
      argument_pairs (x ∷ xs) [] h z i = absurd i
      argument_pairs (x ∷ xs) (e ∷ es) h z (inl same) =
          let k = and_parts (holds_of (takes d e) (variable_shape d x)) (fits.passed d xs es) h in
          let t = holds_there (takes d e) (variable_shape d x) k.0 in
          subst Fit same (value_pairs (whole x) t.0 e (whole_listed x t.0 t.1) t.2)
      argument_pairs (x ∷ xs) (e ∷ es) h z (inr i) = argument_pairs xs es (and_parts (holds_of (takes d e) (variable_shape d x)) (fits.passed d xs es) h).1 z i

      -- what a call gives
      given_pairs : (to : Target) (g : ℕ) (k : Function) → slice_get p.functions g ≡ Some k → fits.gives d to k.result ≡ true → AreTyped (target_places p points to) (points (result_of g))
      given_pairs to g k at_ h l m into from = by_target to h into
        where
          of_result : (c : CType) → k.result ≡ Some c → At (shape_of c) m
          of_result c is =
              let pair = pairs (result_of g) m from in
              let same = one_type p once (result_of g) pair.pointer (shape_of c) pair.pointer_is (result_listed g k c at_ is) in
              let goal : target_of (shape_of c) ≡ Some pair.object = subst (λ (t : ExprType). target_of t ≡ Some pair.object) same pair.target_is in
              record { object = pair.object; target_is = ap target_of (pointer_value (shape_of c) (ap is_some goal)) ∙ goal; object_is = pair.object_is }

          by_target : (to : Target) → fits.gives d to k.result ≡ true → target_places p points to l ≡ true → IsTypedPair p l m
          by_target target.None h into = absurd (false≢true into)
          by_target (target.Place e) h into =
              let c = holds_there (λ (t : CType). fits.stores d (target.Place e) (a_value (shape_of t))) k.result h in
              target_pairs (target.Place e) (shape_of c.0) l m c.2 (of_result c.0 c.1) into
          by_target (target.Declared x) h into =
              let c = holds_there (λ (t : CType). fits.stores d (target.Declared x) (a_value (shape_of t))) k.result h in
              target_pairs (target.Declared x) (shape_of c.0) l m c.2 (of_result c.0 c.1) into

      doing_pairs : (f : ℕ) (a : Doing) → StandsIn p f a → (z : Pointing) → IsIn (doing_pointings p points f a) z → Fit z
      doing_pairs f (Does i a) k z c = act_pairs f i a k z c
      doing_pairs f (Calls i to g args) k z c =
          let h = called_function p points to g args (doing_fit p typed f (Calls i to g args) k) in
          by_pointing h c
        where
          by_pointing : CallsFunction p points to g args → IsIn (doing_pointings p points f (Calls i to g args)) z → Fit z
          by_pointing h (inl same) = subst Fit same (given_pairs to g h.function h.function_is h.gives)
          by_pointing h (inr i_) =
              let params : parameters p g ≡ h.function.params = ap (λ (o : Option Function). option_map_or (λ (k : Function). k.params) o []) h.function_is in
              argument_pairs h.function.params args h.passes z (subst (λ xs. IsIn (passed p points xs args) z) params i_)

      global_pairs : (i : Item) → item_fits d i ≡ true → (z : Pointing) → IsIn (item_pointings p points i) z → Fit z
      global_pairs (item.Include b) h z c = absurd c
      global_pairs (item.Tag s) h z c = absurd c
      global_pairs (item.Struct s) h z c = absurd c
      global_pairs (item.Global x i) h z c = init_pairs x i (and_parts (begins d x i) (begins_fixed i) h).0 z c
      global_pairs (item.Prototype f names is_static) h z c = absurd c
      global_pairs (item.Define f) h z c = absurd c

      pub pointing_pairs : (z : Pointing) → IsPointing p points z → Fit z
      pointing_pairs z (of_statement f k) =
          doing_pairs f k.doing (stands_in p f k.doing (in_of_contains _ k.doing k.member)) z (in_of_contains (doing_pointings p points f k.doing) z k.given)
      pointing_pairs z (of_global i member given_) =
          global_pairs i (passes_at (item_fits d) p.items i typed.globals (in_of_contains p.items i member)) z (in_of_contains (item_pointings p points i) z given_)

    -- a derived pair
    pub pair_typed : AreListedOnce p → AreShapes p → IsTyped p → (l m : Location) → MayPoint p l m → IsTypedPair p l m
    pair_typed once shapes typed l m (by points z derived is into from) =
        pointing_pairs once shapes typed points (λ k n h. pair_typed once shapes typed k n (derived k n h)) z is l m into from

pub targets_have_the_type : TargetsHaveTheType
targets_have_the_type p ok l m h =
    let order = well_formed_in_order p ok in
    let k = pair_typed p order (listed_once p (statements_numbered p ok)) (of_operand p) (programs_typed p ok) l m h in
    record {
      pointer = k.pointer;
      pointer_is = contains_of_in (locations p) (record { location = l; type = k.pointer }) k.pointer_is;
      object = k.object;
      object_is = contains_of_in (locations p) (record { location = m; type = k.object }) k.object_is;
      target_is = k.target_is;
    }
