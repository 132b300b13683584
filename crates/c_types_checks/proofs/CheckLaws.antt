-- The check of a test, an assignment or a return tells a rule exactly where it breaks one.
use Rattle.std.proofs.Common.{◌≡◌, ◌≢◌, [], ◌∷◌, true, false, Option, Some, None, sym, subst, inl, inr}
use Rattle.std.specs.Prelude.{◌&&◌, not, is_some, is_none, Contains}
use Rattle.std.proofs.lemmas.Bool.{not-true, not-false, and_cases, and_parts}
use Rattle.c_arith.specs.declared.operators.BinaryOp.{BinaryOp}
use Rattle.c_arith.specs.declared.operators.BinaryOp.TheVariants.{Add}
use Rattle.c_tree.specs.declared.raw.expr.RawExpr.{RawExpr}
use Rattle.c_tree.specs.declared.raw.program.RawHead.{RawHead}
use Rattle.c_tree.specs.declared.raw.program.RawProgram.{RawProgram}
use Rattle.c_language.specs.DeclaredTypes.{result_type}
use Rattle.c_language.specs.Scopes.{Scope}
use Rattle.c_language.specs.ExprTypes.{operand, a_value, value_type, is_scalar, binary_result, is_assignable}
use Rattle.c_language.specs.ExprRules.{holds_of, points_to_incomplete, moves_incomplete}
use Rattle.c_language.specs.Phrases.{Assigns, Bumps, Tests, Returns}
use Rattle.c_language.specs.Rules.{Breaks, tag, operator, other_type, no_place, return}
use Rattle.c_language.specs.StructRules.{MisusesTag}
use Rattle.c_language.specs.CallRules.{MisusesReturn, head_around}
use Rattle.c_language.specs.TypeRules.{MisusesOperator, AssignsOtherType, AssignsNoPlace, IsNoTarget, one}
use Rattle.c_language.specs.declared.expr_type.ExprType.{ExprType}
use Rattle.c_language.specs.declared.expr_type.Operand.{Operand}
use Rattle.c_language.proofs.Lists.{contains_nil, contains_cons, contains_first, contains_later}
use Rattle.c_types_checks.specs.Checking.{kept, unless_broken, check_test, is_target, check_assignment, check_bump, check_value, check_left, check_return}
use Rattle.c_types_base.proofs.JudgingLaws.{Keeps}
use Rattle.c_types_base.proofs.PhraseLemmas.{are_faultless}
use Rattle.c_types_checks.proofs.KeptPhrases.{OfOperand, keeps-Tests, keeps-Bumps, keeps-Assigns, keeps-Compound, keeps-Returns, keeps-Leaves}
use Rattle.c_types_checks.proofs.TestLemmas.{same_some, none_some, is_something, is_nothing_too, is_something_too}
use Rattle.c_types_base.proofs.TypedLaws.{IsTyped}
use Rattle.c_types_checks.proofs.Findings.{IsTrue, by_test, by_given, by_option, by_judged}
use Rattle.c_types_base.proofs.ListingLaws.{gone}

module _ (raw : RawProgram) (scope : Scope) where
  pub keeps_only : (e : RawExpr) → Keeps raw scope e → (m : RawExpr) → Contains (e ∷ []) m → Keeps raw scope m
  keeps_only e keeps m c = elim (contains_cons e m [] c) [ inl is ↦ subst (Keeps raw scope) is keeps | inr c ↦ absurd (contains_nil m c) ]

  keeps_both : (a b : RawExpr) → Keeps raw scope a → Keeps raw scope b → (m : RawExpr) → Contains (a ∷ (b ∷ [])) m → Keeps raw scope m
  keeps_both a b first second m c = elim (contains_cons a m (b ∷ []) c) [ inl is ↦ subst (Keeps raw scope) is first | inr c ↦ keeps_only b second m c ]

  -- what is so of the operand is so of each operand that the expression is
  pub of_operand : (e : RawExpr) (x : Operand) (P : Operand → Type 0) → operand raw scope e ≡ Some x → P x → OfOperand raw scope e P
  of_operand e x P is holds y also = subst P (same_some is also) holds

  pub no_target : (left : RawExpr) (x : Operand) → operand raw scope left ≡ Some x → (x.is_place && is_scalar x.shape) ≡ false → IsNoTarget raw scope left
  no_target left x is isnt = elim (and_cases x.is_place (is_scalar x.shape) isnt) [ inl p ↦ IsNoTarget.no_place is p | inr s ↦ IsNoTarget.no_scalar is s ]

-- phrases where all that is in scope has a type
module _ (raw : RawProgram) (scope : Scope) (typed : IsTyped raw scope) where
  pub test_true : (e : RawExpr) → IsTrue raw scope (Tests e) (check_test raw scope e)
  test_true e =
      by_judged raw scope (Tests e) typed _ e (λ x. unless_broken (is_scalar (value_type x.shape)) 12 kept) (contains_first e []) (λ x is keeps.
      by_test (Breaks raw scope (Tests e)) _ (is_scalar (value_type x.shape)) 12 kept (λ isnt. operator (MisusesOperator.test is isnt)) (λ scalar.
      keeps-Tests raw scope e (are_faultless raw scope (Tests e) (keeps_only raw scope e keeps))
      (of_operand raw scope e x (λ (z : Operand). is_scalar (value_type z.shape) ≡ true) is scalar)))

  pub bump_true : (left : RawExpr) → IsTrue raw scope (Bumps left) (check_bump raw scope left)
  bump_true left =
      let B = Breaks raw scope (Bumps left) in
      by_judged raw scope (Bumps left) typed _ left _ (contains_first left []) (λ x is keeps.
      by_test B _ (is_target raw scope x) 14 _ (λ isnt. no_place (AssignsNoPlace.bump (no_target raw scope left x is isnt))) (λ target.
      by_test B _ (not (points_to_incomplete scope x)) 7 _
      (λ isnt. tag (MisusesTag.bumped (subst (λ (o : Option Operand). holds_of (points_to_incomplete scope) o ≡ true) (sym is) (not-false _ isnt)))) (λ whole.
      by_given B _ 12 (λ (t : ExprType). kept) (binary_result Add x one) (λ none. operator (MisusesOperator.bump is none)) (λ t gives.
      keeps-Bumps raw scope left (are_faultless raw scope (Bumps left) (keeps_only raw scope left keeps))
      (of_operand raw scope left x (λ (z : Operand). (z.is_place && is_scalar z.shape) ≡ true) is target)
      (subst (λ (o : Option Operand). holds_of (points_to_incomplete scope) o ≡ false) (sym is) (not-true _ whole))
      (of_operand raw scope left x (λ (z : Operand). binary_result Add z one ≢ None) is (λ none. none_some none gives))))))

  simple_true : (left right : RawExpr) → IsTrue raw scope (Assigns left None right) (check_assignment raw scope left None right)
  simple_true left right =
      let B = Breaks raw scope (Assigns left None right) in
      by_judged raw scope (Assigns left None right) typed _ left _ (contains_first left (right ∷ [])) (λ x is first.
      by_judged raw scope (Assigns left None right) typed _ right _ (contains_later left right (right ∷ []) (contains_first right [])) (λ y also second.
      by_test B _ (is_target raw scope x) 14 _ (λ isnt. no_place (AssignsNoPlace.assignment (no_target raw scope left x is isnt))) (λ target.
      by_test B _ (is_assignable x.shape y) 13 kept (λ isnt. other_type (AssignsOtherType.simple is also (and_parts x.is_place _ target).1 isnt)) (λ fits.
      keeps-Assigns raw scope left right (are_faultless raw scope (Assigns left None right) (keeps_both raw scope left right first second))
      (of_operand raw scope left x (λ (z : Operand). (z.is_place && is_scalar z.shape) ≡ true) is target)
      (of_operand raw scope left x (λ (z : Operand). OfOperand raw scope right (λ w. is_assignable z.shape w ≡ true)) is
      (of_operand raw scope right y (λ (w : Operand). is_assignable x.shape w ≡ true) also fits))))))

  compound_true : (left : RawExpr) (op : BinaryOp) (right : RawExpr) → IsTrue raw scope (Assigns left (Some op) right) (check_assignment raw scope left (Some op) right)
  compound_true left op right =
      let B = Breaks raw scope (Assigns left (Some op) right) in
      by_judged raw scope (Assigns left (Some op) right) typed _ left _ (contains_first left (right ∷ [])) (λ x is first.
      by_judged raw scope (Assigns left (Some op) right) typed _ right _ (contains_later left right (right ∷ []) (contains_first right [])) (λ y also second.
      by_test B _ (is_target raw scope x) 14 _ (λ isnt. no_place (AssignsNoPlace.assignment (no_target raw scope left x is isnt))) (λ target.
      by_test B _ (not (moves_incomplete scope op (Some x) (Some y))) 7 _
      (λ isnt. tag (MisusesTag.compound (both_are left right x y (λ a b. moves_incomplete scope op a b ≡ true) is also (not-false _ isnt)))) (λ whole.
      by_given B _ 12 _ (binary_result op x y) (λ none. operator (MisusesOperator.compound is also none)) (λ t gives.
      by_test B _ (is_assignable x.shape (a_value t)) 13 kept (λ isnt. other_type (AssignsOtherType.compound is also gives (and_parts x.is_place _ target).1 isnt)) (λ fits.
      keeps-Compound raw scope left op right (are_faultless raw scope (Assigns left (Some op) right) (keeps_both raw scope left right first second))
      (of_operand raw scope left x (λ (z : Operand). (z.is_place && is_scalar z.shape) ≡ true) is target)
      (both_are left right x y (λ a b. moves_incomplete scope op a b ≡ false) is also (not-true _ whole))
      (of_operand raw scope left x (λ (z : Operand). OfOperand raw scope right (λ w. binary_result op z w ≢ None)) is
      (of_operand raw scope right y (λ (w : Operand). binary_result op x w ≢ None) also (λ none. none_some none gives)))
      (of_operand raw scope left x (λ (z : Operand). OfOperand raw scope right (λ w. (u : ExprType) → binary_result op z w ≡ Some u → is_assignable z.shape (a_value u) ≡ true)) is
      (of_operand raw scope right y (λ (w : Operand). (u : ExprType) → binary_result op x w ≡ Some u → is_assignable x.shape (a_value u) ≡ true) also
      (λ u other. subst (λ (v : ExprType). is_assignable x.shape (a_value v) ≡ true) (same_some gives other) fits)))))))))
    where
      both_are : (left right : RawExpr) (x y : Operand) (P : Option Operand → Option Operand → Type 0) → operand raw scope left ≡ Some x → operand raw scope right ≡ Some y
          → P (Some x) (Some y) → P (operand raw scope left) (operand raw scope right)
      both_are left right x y P is also holds =
          subst (λ (a : Option Operand). P a (operand raw scope right)) (sym is) (subst (λ (b : Option Operand). P (Some x) b) (sym also) holds)

  pub assignment_true : (left : RawExpr) (op : Option BinaryOp) (right : RawExpr) → IsTrue raw scope (Assigns left op right) (check_assignment raw scope left op right)
  assignment_true left None right = simple_true left right
  assignment_true left (Some op) right = compound_true left op right

  left_true : IsTrue raw scope (Returns None) (check_return raw scope None)
  left_true =
      let B = Breaks raw scope (Returns None) in
      by_option B _ (check_left raw scope) (head_around raw scope)
      (λ none. keeps-Leaves raw scope (are_faultless raw scope (Returns None) (λ m c. absurd (contains_nil m c))) (λ head is. none_some none is)) (λ head is.
      by_test B _ (is_none head.result) 18 kept (λ isnt. return (MisusesReturn.no_value is (is_something_too head.result isnt))) (λ void.
      keeps-Leaves raw scope (are_faultless raw scope (Returns None) (λ m c. absurd (contains_nil m c)))
      (λ other also. subst (λ (h : RawHead). h.result ≡ None) (same_some is also) (is_nothing_too head.result void))))

  value_true : (e : RawExpr) → IsTrue raw scope (Returns (Some e)) (check_return raw scope (Some e))
  value_true e =
      let B = Breaks raw scope (Returns (Some e)) in
      by_judged raw scope (Returns (Some e)) typed _ e _ (contains_first e []) (λ x is keeps.
      let clean = are_faultless raw scope (Returns (Some e)) (keeps_only raw scope e keeps) in
      by_option B _ (check_value raw scope x) (head_around raw scope)
      (λ none. keeps-Returns raw scope e clean (λ head around. none_some none around) (λ head around. none_some none around)) (λ head around.
      by_test B _ (is_some head.result) 18 _ (λ isnt. return (MisusesReturn.value_of_void around (gone head.result isnt))) (λ gives.
      let given = λ (other : RawHead) (also : head_around raw scope ≡ Some other). subst (λ (h : RawHead). h.result ≢ None) (same_some around also) (is_something head.result gives) in
      by_option B _ (λ (t : ExprType). unless_broken (is_assignable t x) 18 kept) (result_type raw head)
      (λ none. keeps-Returns raw scope e clean given
      (λ other also t of_type. none_some (subst (λ (h : RawHead). result_type raw h ≡ None) (same_some around also) none) of_type)) (λ t of_type.
      by_test B _ (is_assignable t x) 18 kept (λ isnt. return (MisusesReturn.unfit around of_type is isnt)) (λ fits.
      keeps-Returns raw scope e clean given (λ other also u of_other.
      of_operand raw scope e x (λ (z : Operand). is_assignable u z ≡ true) is
      (subst (λ (v : ExprType). is_assignable v x ≡ true)
      (same_some of_type (subst (λ (h : RawHead). result_type raw h ≡ Some u) (sym (same_some around also)) of_other)) fits)))))))

  pub return_true : (value : Option RawExpr) → IsTrue raw scope (Returns value) (check_return raw scope value)
  return_true None = left_true
  return_true (Some e) = value_true e
