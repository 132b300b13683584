-- The check of an allocation tells a rule exactly where it breaks one.
use Rattle.std.proofs.Common.{◌≡◌, ◌≢◌, ℕ, Bool, true, false, Option, Some, None, refl, sym, ap, subst, ◌∙◌, inl, inr}
use Rattle.std.specs.Prelude.{◌||◌, not, is_none, Contains, option_map, option_and_then}
use Rattle.std.proofs.lemmas.List.Elements.{Contains-append_left, Contains-append_right, Contains-append_cases}
use Rattle.c_tree.specs.declared.raw.expr.RawExpr.{RawExpr}
use Rattle.c_tree.specs.declared.raw.program.RawProgram.{RawProgram}
use Rattle.c_tree.specs.declared.raw.statement.RawTarget.{RawTarget}
use Rattle.c_tree.specs.declared.raw.statement.RawTypeName.{RawTypeName}
use Rattle.c_tree.specs.declared.raw.statement.RawSize.{RawSize}
use Rattle.c_tree.specs.declared.raw.statement.RawSize.TheVariants as size
use Rattle.c_tree.specs.declared.raw.statement.RawAmount.{RawAmount}
use Rattle.c_tree.specs.declared.raw.statement.RawAmount.TheVariants as amount
use Rattle.c_language.specs.Words.{Bytes}
use Rattle.c_language.specs.DeclaredTypes.{struct_id, has_stdlib, written_type}
use Rattle.c_language.specs.Scopes.{Scope, Meaning, meaning_in}
use Rattle.c_language.specs.ExprTypes.{value_type, integer_of, target_of, is_integer, is_pointer, same_type}
use Rattle.c_language.specs.ExprRules.{is_complete, is_function}
use Rattle.c_language.specs.Phrases.{Allocates}
use Rattle.c_language.specs.TypeGrammar.{named_type}
use Rattle.c_language.specs.Uses.{target_exprs, counts, sizes, tags_if, tags_of_size}
use Rattle.c_language.specs.Rules.{Breaks, undeclared, tag, no_place, allocation, initialiser, no_header}
use Rattle.c_language.specs.NameRules.{UsesUndeclared, LacksHeader}
use Rattle.c_language.specs.StructRules.{MisusesTag}
use Rattle.c_language.specs.ArrayRules.{MisusesInitialiser}
use Rattle.c_language.specs.TypeRules.{AssignsNoPlace}
use Rattle.c_language.specs.CallRules.{MisusesAllocation, HasOtherSize, target_type, is_char}
use Rattle.c_language.specs.declared.expr_type.ExprType.{ExprType}
use Rattle.c_language.specs.declared.expr_type.Operand.{Operand}
use Rattle.c_types_checks.specs.Checking.{kept, when_given}
use Rattle.c_types_checks.specs.AllocationChecks.{is_same, is_count, check_object, check_pointed, check_pointee, check_size, check_factor, check_bytes, check_amount, cast_type, check_pointer, check_tags, check_allocation}
use Rattle.c_types_base.proofs.JudgingLaws.{Keeps}
use Rattle.c_types_base.proofs.PhraseLemmas.{clash, are_faultless}
use Rattle.c_types_checks.proofs.KeptPhrases.{OfOperand}
use Rattle.c_types_checks.proofs.KeptDeclarations.{AreNamed}
use Rattle.c_types_checks.proofs.KeptCalls.{keeps-Allocates}
use Rattle.c_types_checks.proofs.TestLemmas.{same_some, none_some, is_nothing_too}
use Rattle.c_types_base.proofs.TypedLaws.{IsTyped}
use Rattle.c_types_checks.proofs.Findings.{Finds, IsTrue, by_test, by_given, by_option, by_both, by_facts, by_all, by_judged}
use Rattle.c_types_checks.proofs.CheckLaws.{of_operand}
use Rattle.c_types_checks.proofs.DeclarationLaws.{tags_true}
use Rattle.c_types_checks.proofs.InitialiserLaws.{then_is}
use Rattle.c_types_checks.proofs.CallLaws.{target_values, target_true}
use Rattle.c_language.proofs.Options.{then_there}

-- a name isn't both a variable and a function
no_variable : {A : Type 0} {o : Option Meaning} (id : ℕ) (t : Option ExprType) → o ≡ Some (Meaning.Variable id t) → o ≡ Some Meaning.Function → A
no_variable id t variable function = clash {b = is_function (Some (Meaning.Variable id t))} refl (ap is_function (sym variable ∙ function))

abbrev type_in : ExprType → Option Meaning → ExprType
type_in t None = t
type_in t (Some Meaning.Function) = t
type_in t (Some (Meaning.Variable id None)) = t
type_in t (Some (Meaning.Variable id (Some u))) = u

same_variable : {o : Option Meaning} (id other : ℕ) (t u : ExprType) → o ≡ Some (Meaning.Variable id (Some t)) → o ≡ Some (Meaning.Variable other (Some u)) → t ≡ u
same_variable id other t u is also = ap (type_in t) (sym is ∙ also)

module _ (raw : RawProgram) (scope : Scope) where
  -- an object of the type is complete, and of the type of the objects
  abbrev pub ObjectIsRight : Option ExprType → ExprType → Type 0
  ObjectIsRight object u = (is_complete scope u ≡ true) × ((o : ExprType) → object ≡ Some o → same_type u o ≡ true)

  -- `sizeof *p` where p is the name
  pub record PointeeIsRight (object : Option ExprType) (name : Bytes) : Type 0 where
    pub declared : meaning_in scope name ≢ None
    pub function : meaning_in scope name ≡ Some Meaning.Function → (o : ExprType) → object ≢ Some o
    pub pointed : (id : ℕ) (t u : ExprType) → meaning_in scope name ≡ Some (Meaning.Variable id (Some t)) → target_of (value_type t) ≡ Some u → ObjectIsRight object u
    pub no_pointer : (id : ℕ) (t : ExprType) → meaning_in scope name ≡ Some (Meaning.Variable id (Some t)) → target_of (value_type t) ≡ None → (o : ExprType) → object ≢ Some o

  abbrev pub SizeIsRight : Option ExprType → RawSize → Type 0
  SizeIsRight object (size.Type t) = (u : ExprType) → written_type raw (named_type t) ≡ Some u → ObjectIsRight object u
  SizeIsRight object (size.Pointee name closed) = PointeeIsRight object name

  -- the type of the target is a pointer, and that of the cast
  pub record PointerIsRight (to : RawTarget) (cast : Option RawTypeName) : Type 0 where
    pub pointer : (t : ExprType) → target_type raw scope to ≡ Some t → is_pointer t ≡ true
    pub cast_to : (c : RawTypeName) → cast ≡ Some c → (t u : ExprType) → target_type raw scope to ≡ Some t → written_type raw (named_type c) ≡ Some u → same_type t u ≡ true

  pub record AmountIsRight (object : Option ExprType) (n : RawAmount) : Type 0 where
    pub values : (e : RawExpr) → Contains (counts n) e → Keeps raw scope e
    pub integers : (e : RawExpr) → Contains (counts n) e → OfOperand raw scope e (λ x. is_integer x.shape ≡ true)
    pub sized : (s : RawSize) → Contains (sizes n) s → SizeIsRight object s
    pub bytes : (o : ExprType) → object ≡ Some o → (not (is_count n) || is_char (integer_of o)) ≡ true

  object_in : (to : RawTarget) (t o : ExprType) → target_type raw scope to ≡ Some t → target_of t ≡ Some o
      → option_and_then target_of (target_type raw scope to) ≡ Some o
  object_in to t o typed of_object = then_is target_of (target_type raw scope to) t o typed of_object

  no_other_size : (object : Option ExprType) (o : ExprType) → object ≡ Some o → (s : RawSize) → SizeIsRight object s → HasOtherSize raw scope o s → ⊥
  no_other_size object o is s right (HasOtherSize.of_type {t} {u} written isnt) = clash isnt ((right u written).1 o is)
  no_other_size object o is s right (HasOtherSize.of_target {name} {closed} {id} {t} {u} known points isnt) = clash isnt ((right.pointed id t u known points).1 o is)
  no_other_size object o is s right (HasOtherSize.of_no_pointer {name} {closed} {id} {t} known none) = right.no_pointer id t known none o is
  no_other_size object o is s right (HasOtherSize.of_function {name} {closed} known) = right.function known o is

  no_misuse : (to : RawTarget) (cast : Option RawTypeName) (n : RawAmount) → PointerIsRight to cast
      → AmountIsRight (option_and_then target_of (target_type raw scope to)) n → MisusesAllocation raw scope (Allocates to cast n) → ⊥
  no_misuse to cast n pointer right (MisusesAllocation.no_pointer {t} typed isnt) = clash isnt (pointer.pointer t typed)
  no_misuse to cast n pointer right (MisusesAllocation.cast {c} {t} {u} typed written isnt) = clash isnt (pointer.cast_to c refl t u typed written)
  no_misuse to cast n pointer right (MisusesAllocation.other_size {t} {object} {measured} typed of_object c other) =
      no_other_size (option_and_then target_of (target_type raw scope to)) object (object_in to t object typed of_object) measured (right.sized measured c) other
  no_misuse to cast n pointer right (MisusesAllocation.no_size {t} {object} typed of_object isnt) =
      clash isnt (right.bytes object (object_in to t object typed of_object))
  no_misuse to cast n pointer right (MisusesAllocation.no_count {e} {x} c is isnt) = clash isnt (right.integers e c x is)

  bytes_broken : (to : RawTarget) (cast : Option RawTypeName) (n : RawAmount) (t o : ExprType) → target_type raw scope to ≡ Some t → target_of t ≡ Some o
      → (not (is_count n) || is_char (integer_of o)) ≡ false → Breaks raw scope (Allocates to cast n) 20
  bytes_broken to cast (amount.Count e) t o typed of_object h = allocation (MisusesAllocation.no_size typed of_object h)
  bytes_broken to cast (amount.Size s) t o typed of_object h = clash h refl
  bytes_broken to cast (amount.CountSize e s) t o typed of_object h = clash h refl
  bytes_broken to cast (amount.SizeCount s e) t o typed of_object h = clash h refl

module _ (raw : RawProgram) (scope : Scope) (typed : IsTyped raw scope) (to : RawTarget) (cast : Option RawTypeName) (n : RawAmount) where
  abbrev B : ℕ → Type 0
  B = Breaks raw scope (Allocates to cast n)

  abbrev object : Option ExprType
  object = option_and_then target_of (target_type raw scope to)

  -- a size that isn't that of the objects
  other_size : (s : RawSize) → Contains (sizes n) s → (o : ExprType) → object ≡ Some o → HasOtherSize raw scope o s → B 20
  other_size s c o is other =
      let found = then_there target_of (target_type raw scope to) o is in
      allocation (MisusesAllocation.other_size found.there found.same c other)

  object_true : (u : ExprType) → (is_complete scope u ≡ false → B 7) → ((o : ExprType) → object ≡ Some o → same_type u o ≡ false → B 20)
      → Finds B (ObjectIsRight raw scope object u) (check_object raw scope object u)
  object_true u incomplete other =
      by_test B (ObjectIsRight raw scope object u) (is_complete scope u) 7 _ incomplete (λ whole.
      by_test B (ObjectIsRight raw scope object u) (is_same u object) 20 kept
      (λ isnt. same_not u object other isnt) (λ same. (whole, λ o is. subst (λ (x : Option ExprType). is_same u x ≡ true) is same)))
    where
      same_not : (u : ExprType) (x : Option ExprType) → ((o : ExprType) → x ≡ Some o → same_type u o ≡ false → B 20) → is_same u x ≡ false → B 20
      same_not u None other isnt = clash isnt refl
      same_not u (Some o) other isnt = other o refl isnt

  absent : (s : RawSize) → Contains (sizes n) s → ((o : ExprType) → HasOtherSize raw scope o s) → (x : Option ExprType) → object ≡ x → is_none x ≡ false → B 20
  absent s c other None is isnt = clash isnt refl
  absent s c other (Some o) is isnt = other_size s c o is (other o)

  function_true : (name : Bytes) (closed : Bool) → Contains (sizes n) (size.Pointee name closed) → meaning_in scope name ≡ Some Meaning.Function
      → Finds B (PointeeIsRight raw scope object name) (check_pointee raw scope object Meaning.Function)
  function_true name closed c is =
      by_test B (PointeeIsRight raw scope object name) (is_none object) 20 kept
      (λ isnt. absent (size.Pointee name closed) c (λ o. HasOtherSize.of_function is) object refl isnt) (λ none. record {
        declared = λ missing. none_some missing is;
        function = λ known o some. none_some (is_nothing_too object none) some;
        pointed = λ id t u known. no_variable id (Some t) known is;
        no_pointer = λ id t known. no_variable id (Some t) known is;
      })

  no_pointer_true : (name : Bytes) (closed : Bool) (id : ℕ) (t : ExprType) → Contains (sizes n) (size.Pointee name closed)
      → meaning_in scope name ≡ Some (Meaning.Variable id (Some t)) → target_of (value_type t) ≡ None
      → Finds B (PointeeIsRight raw scope object name) (check_pointed raw scope object None)
  no_pointer_true name closed id t c is none =
      by_test B (PointeeIsRight raw scope object name) (is_none object) 20 kept
      (λ isnt. absent (size.Pointee name closed) c (λ o. HasOtherSize.of_no_pointer is none) object refl isnt) (λ nothing. record {
        declared = λ missing. none_some missing is;
        function = λ known. no_variable id (Some t) is known;
        pointed = λ other v u known points. none_some (subst (λ (w : ExprType). target_of (value_type w) ≡ None) (same_variable id other t v is known) none) points;
        no_pointer = λ other v known points o some. none_some (is_nothing_too object nothing) some;
      })

  pointer_true : (name : Bytes) (closed : Bool) (id : ℕ) (t u : ExprType) → Contains (sizes n) (size.Pointee name closed)
      → meaning_in scope name ≡ Some (Meaning.Variable id (Some t)) → target_of (value_type t) ≡ Some u
      → Finds B (PointeeIsRight raw scope object name) (check_object raw scope object u)
  pointer_true name closed id t u c is points =
      by_facts B (ObjectIsRight raw scope object u) (PointeeIsRight raw scope object name) _ (λ right. record {
        declared = λ missing. none_some missing is;
        function = λ known. no_variable id (Some t) is known;
        pointed = λ other v w known at_v.
            subst (λ (x : ExprType). ObjectIsRight raw scope object x)
            (same_some points (subst (λ (x : ExprType). target_of (value_type x) ≡ Some w) (sym (same_variable id other t v is known)) at_v)) right;
        no_pointer = λ other v known none.
            none_some (subst (λ (x : ExprType). target_of (value_type x) ≡ None) (sym (same_variable id other t v is known)) none) points;
      })
      (object_true u (λ isnt. tag (MisusesTag.size_of_target c is points isnt))
      (λ o some isnt. other_size (size.Pointee name closed) c o some (HasOtherSize.of_target is points isnt)))

  pointed_true : (name : Bytes) (closed : Bool) (id : ℕ) (t : ExprType) (x : Option ExprType) → Contains (sizes n) (size.Pointee name closed)
      → meaning_in scope name ≡ Some (Meaning.Variable id (Some t)) → target_of (value_type t) ≡ x
      → Finds B (PointeeIsRight raw scope object name) (check_pointed raw scope object x)
  pointed_true name closed id t None c is none = no_pointer_true name closed id t c is none
  pointed_true name closed id t (Some u) c is points = pointer_true name closed id t u c is points

  pointee_true : (name : Bytes) (closed : Bool) (m : Meaning) → Contains (sizes n) (size.Pointee name closed) → meaning_in scope name ≡ Some m
      → Finds B (PointeeIsRight raw scope object name) (check_pointee raw scope object m)
  pointee_true name closed Meaning.Function c is = function_true name closed c is
  pointee_true name closed (Meaning.Variable id None) c is = absurd (typed.variables name id is)
  pointee_true name closed (Meaning.Variable id (Some t)) c is = pointed_true name closed id t (target_of (value_type t)) c is refl

  size_true : (s : RawSize) → Contains (sizes n) s → Finds B (SizeIsRight raw scope object s) (check_size raw scope object s)
  size_true (size.Type t) c =
      by_option B _ (check_object raw scope object) (written_type raw (named_type t)) (λ none u is. none_some none is) (λ u is.
      by_facts B (ObjectIsRight raw scope object u) _ _ (λ right v also. subst (λ (w : ExprType). ObjectIsRight raw scope object w) (same_some is also) right)
      (object_true u (λ isnt. tag (MisusesTag.size_of_type c is isnt)) (λ o some isnt. other_size (size.Type t) c o some (HasOtherSize.of_type is isnt))))
  size_true (size.Pointee name closed) c =
      by_given B (PointeeIsRight raw scope object name) 1 (check_pointee raw scope object) (meaning_in scope name)
      (λ none. undeclared (UsesUndeclared.measured c none)) (λ m is. pointee_true name closed m c is)

  -- a count of objects is an integer
  abbrev FactorIsRight : RawExpr → Type 0
  FactorIsRight e = Keeps raw scope e × OfOperand raw scope e (λ x. is_integer x.shape ≡ true)

  factor_true : (e : RawExpr) → Contains (counts n) e → Finds B (FactorIsRight e) (check_factor raw scope e)
  factor_true e c =
      by_judged raw scope (Allocates to cast n) typed (FactorIsRight e) e _ (Contains-append_right (target_exprs to) (counts n) e c) (λ x is keeps.
      by_test B (FactorIsRight e) (is_integer x.shape) 20 kept (λ isnt. allocation (MisusesAllocation.no_count c is isnt)) (λ integer.
      (keeps, of_operand raw scope e x (λ (z : Operand). is_integer z.shape ≡ true) is integer)))

  bytes_true : (x : Option ExprType) → object ≡ x
      → Finds B ((o : ExprType) → x ≡ Some o → (not (is_count n) || is_char (integer_of o)) ≡ true) (when_given (check_bytes raw scope n) x)
  bytes_true None is = λ o some. none_some refl some
  bytes_true (Some o) is =
      by_test B _ (not (is_count n) || is_char (integer_of o)) 20 kept
      (λ isnt. let found = then_there target_of (target_type raw scope to) o is in bytes_broken raw scope to cast n found.value o found.there found.same isnt)
      (λ right u also. subst (λ (w : ExprType). (not (is_count n) || is_char (integer_of w)) ≡ true) (same_some refl also) right)

  amount_true : Finds B (AmountIsRight raw scope object n) (check_amount raw scope n object)
  amount_true =
      by_both B ((e : RawExpr) → Contains (counts n) e → FactorIsRight e) (AmountIsRight raw scope object n) _ _
      (by_all B FactorIsRight (check_factor raw scope) (counts n) factor_true) (λ factors.
      by_both B ((s : RawSize) → Contains (sizes n) s → SizeIsRight raw scope object s) (AmountIsRight raw scope object n) _ _
      (by_all B (SizeIsRight raw scope object) (check_size raw scope object) (sizes n) size_true) (λ sized.
      by_facts B ((o : ExprType) → object ≡ Some o → (not (is_count n) || is_char (integer_of o)) ≡ true) (AmountIsRight raw scope object n) _
      (λ bytes. record { values = λ e c. (factors e c).0; integers = λ e c. (factors e c).1; sized = sized; bytes = bytes }) (bytes_true object refl)))

  cast_true : (t u : ExprType) → target_type raw scope to ≡ Some t → (c : Option RawTypeName) → cast ≡ c → cast_type raw scope c ≡ Some u → same_type t u ≡ false → B 20
  cast_true t u of_type None is written isnt = none_some refl written
  cast_true t u of_type (Some c) is written isnt =
      subst (λ (k : Option RawTypeName). Breaks raw scope (Allocates to k n) 20) (sym is) (allocation (MisusesAllocation.cast of_type written isnt))

  cast_right : (t : ExprType) → target_type raw scope to ≡ Some t → is_pointer t ≡ true
      → ((u : ExprType) → cast_type raw scope cast ≡ Some u → same_type t u ≡ true) → PointerIsRight raw scope to cast
  cast_right t of_type pointer same = record {
    pointer = λ v also. subst (λ (w : ExprType). is_pointer w ≡ true) (same_some of_type also) pointer;
    cast_to = λ c is v u also written.
        subst (λ (w : ExprType). same_type w u ≡ true) (same_some of_type also)
        (same u (then_is (λ (k : RawTypeName). written_type raw (named_type k)) cast c u is written));
  }

  pointer_right : Finds B (PointerIsRight raw scope to cast) (when_given (check_pointer raw scope cast) (target_type raw scope to))
  pointer_right =
      by_option B (PointerIsRight raw scope to cast) (check_pointer raw scope cast) (target_type raw scope to)
      (λ none. record { pointer = λ t of_type. none_some none of_type; cast_to = λ c is t u of_type. none_some none of_type }) (λ t of_type.
      by_test B (PointerIsRight raw scope to cast) (is_pointer t) 20 _ (λ isnt. allocation (MisusesAllocation.no_pointer of_type isnt)) (λ pointer.
      by_option B (PointerIsRight raw scope to cast) _ (cast_type raw scope cast)
      (λ none. cast_right t of_type pointer (λ u written. none_some none written)) (λ u written.
      by_test B (PointerIsRight raw scope to cast) (same_type t u) 20 kept (λ isnt. cast_true t u of_type cast refl written isnt) (λ same.
      cast_right t of_type pointer (λ v also. subst (λ (w : ExprType). same_type t w ≡ true) (same_some written also) same)))))

  named_tags : Finds B (AreNamed raw scope (Allocates to cast n)) (check_tags raw scope cast n)
  named_tags =
      let of_cast = tags_if (option_map (λ (t : RawTypeName). t.base) cast) in
      by_both B ((w : Bytes) → Contains of_cast w → struct_id raw w ≢ None) (AreNamed raw scope (Allocates to cast n)) _ _
      (tags_true raw scope (Allocates to cast n) of_cast (λ w c. Contains-append_left of_cast (tags_of_size (sizes n)) w c)) (λ first.
      by_facts B ((w : Bytes) → Contains (tags_of_size (sizes n)) w → struct_id raw w ≢ None) (AreNamed raw scope (Allocates to cast n)) _
      (λ second w c. elim (Contains-append_cases of_cast (tags_of_size (sizes n)) w c) [ inl c ↦ first w c | inr c ↦ second w c ])
      (tags_true raw scope (Allocates to cast n) (tags_of_size (sizes n)) (λ w c. Contains-append_right of_cast (tags_of_size (sizes n)) w c)))

  pub allocation_true : IsTrue raw scope (Allocates to cast n) (check_allocation raw scope to cast n)
  allocation_true =
      by_test B _ (has_stdlib raw) 24 _ (λ isnt. no_header (LacksHeader.allocation isnt)) (λ header.
      by_both B (AreNamed raw scope (Allocates to cast n)) _ _ _ named_tags (λ named.
      target_true raw scope typed (Allocates to cast n) _ to _ (λ e c. Contains-append_left (target_exprs to) (counts n) e c)
      (λ left is isnt. subst (λ (t : RawTarget). Breaks raw scope (Allocates t cast n) 14) (sym is) (no_place (AssignsNoPlace.allocation isnt)))
      (λ var t is of_type isnt. subst (λ (t : RawTarget). Breaks raw scope (Allocates t cast n) 22) (sym is) (initialiser (MisusesInitialiser.by_allocation of_type isnt)))
      (λ target.
      by_both B (PointerIsRight raw scope to cast) _ _ _ pointer_right (λ pointer.
      by_facts B (AmountIsRight raw scope object n) _ _ (λ right.
      keeps-Allocates raw scope to cast n
      (are_faultless raw scope (Allocates to cast n) (λ e c. elim (Contains-append_cases (target_exprs to) (counts n) e c) [
        | inl c ↦ target_values raw scope to target e c
        | inr c ↦ right.values e c
      ])) header named target (λ name closed c. (right.sized (size.Pointee name closed) c).declared)
      (λ t u c written. (right.sized (size.Type t) c u written).0)
      (λ name closed id t u c known points. ((right.sized (size.Pointee name closed) c).pointed id t u known points).0)
      (no_misuse raw scope to cast n pointer right)) amount_true))))
