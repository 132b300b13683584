-- The check of an initialiser or of a switch tells a rule exactly where it breaks one.
use Rattle.std.proofs.Common.{◌≡◌, ◌≢◌, ℕ, ◌<◌, ◌≤◌, List, [], ◌∷◌, length, Bool, true, false, Option, Some, None, refl, sym, ap, subst, ◌∙◌, arith, inl, inr}
use Rattle.std.specs.Prelude.{nat_lt, is_some, Contains, option_and_then}
use Rattle.std.proofs.lemmas.Bool.{ltb-true, ltb-false, not-true, not-false, and_cases, or_parts, or_cases, and_parts}
use Rattle.c_arith.specs.declared.int_type.IntType.{IntType}
use Rattle.c_arith.specs.IntType.{promote}
use Rattle.c_tree.specs.declared.raw.expr.RawExpr.{RawExpr}
use Rattle.c_tree.specs.declared.raw.expr.RawVar.{RawVar}
use Rattle.c_tree.specs.declared.raw.program.RawInit.{RawInit}
use Rattle.c_tree.specs.declared.raw.program.RawInit.TheVariants as init
use Rattle.c_tree.specs.declared.raw.program.RawProgram.{RawProgram}
use Rattle.c_tree.specs.declared.raw.statement.RawLabel.{RawLabel}
use Rattle.c_tree.specs.declared.raw.statement.RawLabel.TheVariants as label
use Rattle.c_language.specs.ConstantEvaluation.{value_of_constant}
use Rattle.c_language.specs.DeclaredTypes.{variable_type}
use Rattle.c_language.specs.Scopes.{Scope}
use Rattle.c_language.specs.ExprTypes.{operand, integer_of, is_scalar, is_pointer, is_assignable}
use Rattle.c_language.specs.Phrases.{Stand, InFile, InHead, InBlock, InArm, InFor, Part, Begins, Switches}
use Rattle.c_language.specs.Uses.{is_null_name, cases}
use Rattle.c_language.specs.Rules.{Breaks, no_constant, switch, other_type, initialiser}
use Rattle.c_language.specs.ArrayRules.{LacksConstant, IsNoConstant, HasUnfit, MisusesInitialiser, element_of, count_of}
use Rattle.c_language.specs.TypeRules.{AssignsOtherType}
use Rattle.c_language.specs.SwitchRules.{MisusesSwitch}
use Rattle.c_language.specs.declared.expr_type.ExprType.{ExprType}
use Rattle.c_language.specs.declared.expr_type.Operand.{Operand}
use Rattle.c_language.proofs.Lists.{contains_cons, contains_first, contains_later}
use Rattle.c_language.proofs.UseLemmas.{case_among}
use Rattle.c_types_checks.specs.Checking.{kept}
use Rattle.c_types_checks.specs.InitialiserChecks.{is_constant_for, are_few, check_constant, check_first, check_item, check_listed, check_items, check_begun}
use Rattle.c_types_checks.specs.SwitchChecks.{case_values, are_distinct, default_count, check_label, check_labels, check_switch}
use Rattle.c_types_base.proofs.JudgingLaws.{Keeps}
use Rattle.c_types_base.proofs.PhraseLemmas.{clash, are_faultless}
use Rattle.c_types_checks.proofs.KeptPhrases.{OfOperand}
use Rattle.c_types_checks.proofs.KeptDeclarations.{keeps-BeginsOne, keeps-BeginsItems}
use Rattle.c_types_checks.proofs.KeptCalls.{keeps-BeginsNone, keeps-Switches}
use Rattle.c_types_checks.proofs.TestLemmas.{same_some, none_some, is_something}
use Rattle.c_types_checks.proofs.SwitchLemmas.{case_in, two_defaults, defaults_counted, two_cases, no_two_cases}
use Rattle.c_types_base.proofs.TypedLaws.{IsTyped}
use Rattle.c_types_checks.proofs.Findings.{Finds, IsTrue, by_test, by_given, by_option, by_both, by_facts, by_all, by_judged}
use Rattle.c_types_checks.proofs.CheckLaws.{keeps_only, of_operand}
use Rattle.c_types_checks.proofs.DeclarationLaws.{are_none}
use Rattle.c_types_base.proofs.ListingLaws.{gone}
use Rattle.c_language.proofs.Options.{then_there}

pub then_is : {A B : Type 0} (f : A → Option B) (o : Option A) (t : A) (u : B) → o ≡ Some t → f t ≡ Some u → option_and_then f o ≡ Some u
then_is {A} f o t u is gives = ap (λ (x : Option A). option_and_then f x) is ∙ gives

no_constant_for : (t : ExprType) (e : RawExpr) → is_constant_for t e ≡ false → IsNoConstant t e
no_constant_for t e h =
    let parts = or_parts (is_some (value_of_constant e)) _ h in
    elim (and_cases (is_null_name e) (is_pointer t) parts.1) [
      | inl name ↦ IsNoConstant.other e (gone (value_of_constant e) parts.0) name
      | inr type ↦ IsNoConstant.null e (gone (value_of_constant e) parts.0) type
    ]

constant_not : (t : ExprType) (e : RawExpr) → is_constant_for t e ≡ true → IsNoConstant t e → ⊥
constant_not t e h (IsNoConstant.other e' none name) = elim (or_cases (is_some (value_of_constant e)) _ h) [
  | inl some ↦ is_something (value_of_constant e) some none
  | inr both ↦ clash name (and_parts (is_null_name e) (is_pointer t) both).0
]
constant_not t e h (IsNoConstant.null e' none type) = elim (or_cases (is_some (value_of_constant e)) _ h) [
  | inl some ↦ is_something (value_of_constant e) some none
  | inr both ↦ clash type (and_parts (is_null_name e) (is_pointer t) both).1
]

abbrev stands_in_file : Stand → Bool
stands_in_file (InFile is_static) = true
stands_in_file InHead = false
stands_in_file InBlock = false
stands_in_file InArm = false
stands_in_file InFor = false

few_not : (k : ℕ) (o : Option ℕ) → are_few k o ≡ false → (n : ℕ) × (o ≡ Some n) × (n < k)
few_not k None h = clash h refl
few_not k (Some n) h = (n, refl, ltb-true n k (not-false (nat_lt n k) h))

few_so : (k : ℕ) (o : Option ℕ) → are_few k o ≡ true → (n : ℕ) → o ≡ Some n → k ≤ n
few_so k o h n is = ltb-false n k (not-true (nat_lt n k) (subst (λ (p : Option ℕ). are_few k p ≡ true) is h))

-- a label is a constant
abbrev pub LabelIsRight : RawProgram → Scope → RawLabel → Type 0
LabelIsRight raw scope label.Default = Unit {0}
LabelIsRight raw scope (label.Case e) = Keeps raw scope e × (value_of_constant e ≢ None)

-- an item of a list, for an element of the type
pub record ItemIsRight (raw : RawProgram) (scope : Scope) (stand : Stand) (element : Option ExprType) (e : RawExpr) : Type 0 where
  pub keeps : Keeps raw scope e
  pub fits : (u : ExprType) → element ≡ Some u → OfOperand raw scope e (λ x. is_assignable u x ≡ true)
  pub constant : (is_static : Bool) → stand ≡ InFile is_static → (u : ExprType) → element ≡ Some u → IsNoConstant u e → ⊥

module _ (raw : RawProgram) (scope : Scope) (typed : IsTyped raw scope) where
  constant_true : (part : Part) (stand : Stand) (t : ExprType) (e : RawExpr)
      → ((is_static : Bool) → stand ≡ InFile is_static → IsNoConstant t e → Breaks raw scope part 10)
      → Finds (Breaks raw scope part) ((is_static : Bool) → stand ≡ InFile is_static → IsNoConstant t e → ⊥) (check_constant raw scope stand t e)
  constant_true part (InFile is_static) t e breaks =
      by_test (Breaks raw scope part) _ (is_constant_for t e) 10 kept (λ isnt. breaks is_static refl (no_constant_for t e isnt)) (λ is other same.
      constant_not t e is)
  constant_true part InHead t e breaks = λ is_static same. clash refl (ap stands_in_file same)
  constant_true part InBlock t e breaks = λ is_static same. clash refl (ap stands_in_file same)
  constant_true part InArm t e breaks = λ is_static same. clash refl (ap stands_in_file same)
  constant_true part InFor t e breaks = λ is_static same. clash refl (ap stands_in_file same)

  one_true : (stand : Stand) (var : RawVar) (e : RawExpr)
      → IsTrue raw scope (Begins stand var (init.One e)) (check_begun raw scope stand var (init.One e))
  one_true stand var e =
      let part = Begins stand var (init.One e) in
      let B = Breaks raw scope part in
      by_judged raw scope part typed _ e _ (contains_first e []) (λ y is keeps.
      let clean = are_faultless raw scope part (keeps_only raw scope e keeps) in
      by_option B _ (check_first raw scope stand e y) (variable_type raw var (init.One e))
      (λ none.
      keeps-BeginsOne raw scope stand var e clean (λ s place t of_type. none_some none of_type) (λ t of_type. none_some none of_type)
      (λ t of_type. none_some none of_type)) (λ t of_type.
      by_test B _ (is_scalar t) 22 _ (λ isnt. initialiser (MisusesInitialiser.whole of_type isnt)) (λ scalar.
      by_test B _ (is_assignable t y) 13 _ (λ isnt. other_type (AssignsOtherType.initialiser of_type is scalar isnt)) (λ fits.
      by_facts B ((is_static : Bool) → stand ≡ InFile is_static → IsNoConstant t e → ⊥) _ _ (λ constant.
      keeps-BeginsOne raw scope stand var e clean
      (λ s place u also. subst (λ (v : ExprType). IsNoConstant v e → ⊥) (same_some of_type also) (constant s place))
      (λ u also. subst (λ (v : ExprType). is_scalar v ≡ true) (same_some of_type also) scalar)
      (λ u also. of_operand raw scope e y (λ (z : Operand). is_assignable u z ≡ true) is (subst (λ (v : ExprType). is_assignable v y ≡ true) (same_some of_type also) fits)))
      (constant_true part stand t e (λ s place isnt.
      subst (λ (st : Stand). Breaks raw scope (Begins st var (init.One e)) 10) (sym place) (no_constant (LacksConstant.global of_type isnt))))))))

  item_true : (stand : Stand) (var : RawVar) (es : List RawExpr) (e : RawExpr) → Contains es e
      → Finds (Breaks raw scope (Begins stand var (init.Items es)))
      (ItemIsRight raw scope stand (option_and_then element_of (variable_type raw var (init.Items es))) e)
      (check_item raw scope stand (option_and_then element_of (variable_type raw var (init.Items es))) e)
  item_true stand var es e c =
      let part = Begins stand var (init.Items es) in
      let B = Breaks raw scope part in
      let element = option_and_then element_of (variable_type raw var (init.Items es)) in
      by_judged raw scope part typed (ItemIsRight raw scope stand element e) e _ c (λ y is keeps.
      by_option B (ItemIsRight raw scope stand element e) _ element
      (λ none. record { keeps = keeps; fits = λ u of_type. none_some none of_type; constant = λ s place u of_type. none_some none of_type }) (λ u of_type.
      let array = then_there element_of (variable_type raw var (init.Items es)) u of_type in
      by_test B (ItemIsRight raw scope stand element e) (is_assignable u y) 22 _
      (λ isnt. initialiser (MisusesInitialiser.unfit array.there array.same (e, c, (y, is, isnt)))) (λ fits.
      by_facts B ((is_static : Bool) → stand ≡ InFile is_static → IsNoConstant u e → ⊥) (ItemIsRight raw scope stand element e) _ (λ constant. record {
        keeps = keeps;
        fits = λ v also. of_operand raw scope e y (λ (z : Operand). is_assignable v z ≡ true) is (subst (λ (w : ExprType). is_assignable w y ≡ true) (same_some of_type also) fits);
        constant = λ s place v also. subst (λ (w : ExprType). IsNoConstant w e → ⊥) (same_some of_type also) (constant s place);
      }) (constant_true part stand u e (λ s place isnt.
      subst (λ (st : Stand). Breaks raw scope (Begins st var (init.Items es)) 10) (sym place) (no_constant (LacksConstant.item array.there array.same c isnt)))))))

  items_true : (stand : Stand) (var : RawVar) (es : List RawExpr)
      → IsTrue raw scope (Begins stand var (init.Items es)) (check_items raw scope stand es (variable_type raw var (init.Items es)))
  items_true stand var es =
      let part = Begins stand var (init.Items es) in
      let B = Breaks raw scope part in
      let array = variable_type raw var (init.Items es) in
      let element = option_and_then element_of array in
      by_both B ((e : RawExpr) → Contains es e → ItemIsRight raw scope stand element e) _ _ _
      (by_all B (ItemIsRight raw scope stand element) (check_item raw scope stand element) es (item_true stand var es)) (λ right.
      let clean = are_faultless raw scope part (λ e c. (right e c).keeps) in
      let finish = keeps-BeginsItems raw scope stand var es clean
      (λ s place t of_type u of_element e c. (right e c).constant s place u (then_is element_of array t u of_type of_element)) in
      let fit = λ (t : ExprType) (of_type : array ≡ Some t) (u : ExprType) (of_element : element_of t ≡ Some u) (h : HasUnfit raw scope u es).
      clash h.2.2 ((right h.0 h.1).fits u (then_is element_of array t u of_type of_element) h.2.0 h.2.1) in
      by_option B _ (check_listed raw scope (length es)) array
      (λ none. finish (λ t of_type. none_some none of_type) (λ t of_type. none_some none of_type) (λ t of_type. none_some none of_type) fit) (λ t of_type.
      by_given B _ 22 _ (element_of t) (λ none. initialiser (MisusesInitialiser.no_array of_type none)) (λ u of_element.
      by_test B _ (is_scalar u) 22 _ (λ isnt. initialiser (MisusesInitialiser.no_scalars of_type of_element isnt)) (λ scalar.
      by_test B _ (are_few (length es) (count_of t)) 22 kept
      (λ isnt. let many = few_not (length es) (count_of t) isnt in initialiser (MisusesInitialiser.too_many of_type many.1 many.2)) (λ few.
      finish
      (λ v also none. none_some none (subst (λ (w : ExprType). element_of w ≡ Some u) (same_some of_type also) of_element))
      (λ v also x of_other.
      subst (λ (w : ExprType). is_scalar w ≡ true) (same_some of_element (subst (λ (w : ExprType). element_of w ≡ Some x) (sym (same_some of_type also)) of_other)) scalar)
      (λ v also k count. few_so (length es) (count_of t) few k (subst (λ (w : ExprType). count_of w ≡ Some k) (sym (same_some of_type also)) count))
      fit)))))

  pub begun_true : (stand : Stand) (var : RawVar) (i : RawInit) → IsTrue raw scope (Begins stand var i) (check_begun raw scope stand var i)
  begun_true stand var init.None = keeps-BeginsNone raw scope stand var (are_none raw scope (Begins stand var init.None) refl)
  begun_true stand var (init.One e) = one_true stand var e
  begun_true stand var (init.Items es) = items_true stand var es

  label_true : (test : RawExpr) (labels : List RawLabel) (l : RawLabel) → Contains labels l
      → Finds (Breaks raw scope (Switches test labels)) (LabelIsRight raw scope l) (check_label raw scope l)
  label_true test labels label.Default c = tt
  label_true test labels (label.Case e) c =
      let part = Switches test labels in
      let inside = case_among labels e c in
      by_both (Breaks raw scope part) (Keeps raw scope e) _ _ _
      (by_judged raw scope part typed (Keeps raw scope e) e (λ x. kept) (contains_later test e (cases labels) inside) (λ x is keeps. keeps)) (λ keeps.
      by_test (Breaks raw scope part) _ (is_some (value_of_constant e)) 10 kept
      (λ isnt. no_constant (LacksConstant.label inside (gone (value_of_constant e) isnt))) (λ some. (keeps, is_something (value_of_constant e) some)))

  labels_clean : (test : RawExpr) (labels : List RawLabel) → Keeps raw scope test → ((l : RawLabel) → Contains labels l → LabelIsRight raw scope l)
      → (e : RawExpr) → Contains (test ∷ cases labels) e → Keeps raw scope e
  labels_clean test labels keeps right e c = elim (contains_cons test e (cases labels) c) [
    | inl is ↦ subst (Keeps raw scope) is keeps
    | inr c ↦ (right (label.Case e) (case_in labels e c)).0
  ]

  pub switch_true : (test : RawExpr) (labels : List RawLabel) → IsTrue raw scope (Switches test labels) (check_switch raw scope test labels)
  switch_true test labels =
      let part = Switches test labels in
      let B = Breaks raw scope part in
      by_judged raw scope part typed _ test _ (contains_first test (cases labels)) (λ x is keeps.
      by_given B _ 11 (check_labels raw scope labels) (integer_of x.shape) (λ none. switch (MisusesSwitch.no_integer is none)) (λ t integer.
      by_both B ((l : RawLabel) → Contains labels l → LabelIsRight raw scope l) _ _ _
      (by_all B (LabelIsRight raw scope) (check_label raw scope) labels (label_true test labels)) (λ right.
      by_test B _ (nat_lt (default_count labels) 2) 11 _
      (λ isnt. switch (MisusesSwitch.defaults (two_defaults labels (ltb-false (default_count labels) 2 isnt)))) (λ few.
      by_test B _ (are_distinct (case_values (promote t) labels)) 11 kept
      (λ isnt. switch (MisusesSwitch.equal_labels is integer (two_cases (promote t) labels isnt))) (λ distinct.
      keeps-Switches raw scope test labels (are_faultless raw scope part (labels_clean test labels keeps right))
      (no_misuse test labels x t is integer few distinct) (λ e c. (right (label.Case e) (case_in labels e c)).1))))))
    where
      no_misuse : (test : RawExpr) (labels : List RawLabel) (x : Operand) (t : IntType) → operand raw scope test ≡ Some x → integer_of x.shape ≡ Some t
          → nat_lt (default_count labels) 2 ≡ true → are_distinct (case_values (promote t) labels) ≡ true → MisusesSwitch raw scope (Switches test labels) → ⊥
      no_misuse test labels x t is integer few distinct (MisusesSwitch.no_integer {x = y} also none) =
          none_some (subst (λ (z : Operand). integer_of z.shape ≡ None) (same_some also is) none) integer
      no_misuse test labels x t is integer few distinct (MisusesSwitch.equal_labels {x = y} {t = u} also other two) =
          no_two_cases (promote u) labels
          (subst (λ (v : IntType). are_distinct (case_values (promote v) labels) ≡ true)
          (same_some integer (subst (λ (z : Operand). integer_of z.shape ≡ Some u) (same_some also is) other)) distinct) two
      no_misuse test labels x t is integer few distinct (MisusesSwitch.defaults two) =
          let h = defaults_counted labels two in let k = ltb-true (default_count labels) 2 few in omega (arith, h, k)
