-- The check of a call tells a rule exactly where it breaks one.
use Rattle.std.proofs.Common.{◌≡◌, ◌≢◌, ℕ, List, [], ◌∷◌, length, Bool, true, false, Option, Some, None, refl, sym, ap, subst, ◌∙◌, inl, inr}
use Rattle.std.specs.Prelude.{◌==◌, ◌&&◌, ◌||◌, not, is_some, Contains, bytes_eq, codes, option_map, option_and_then}
use Rattle.std.proofs.lemmas.Bool.{eqb-true, eq-eqb, or_from, not-true, not-false, or_parts, or_cases}
use Rattle.std.proofs.lemmas.List.Elements.{Contains-append_left, Contains-append_right, Contains-append_cases}
use Rattle.c_arith.specs.declared.int_type.IntType.TheVariants.{Int}
use Rattle.c_tree.specs.declared.raw.expr.RawExpr.{RawExpr}
use Rattle.c_tree.specs.declared.raw.expr.RawVar.{RawVar}
use Rattle.c_tree.specs.declared.raw.program.RawInit.TheVariants as init
use Rattle.c_tree.specs.declared.raw.program.RawHead.{RawHead}
use Rattle.c_tree.specs.declared.raw.program.RawProgram.{RawProgram}
use Rattle.c_tree.specs.declared.raw.statement.RawTarget.{RawTarget}
use Rattle.c_tree.specs.declared.raw.statement.RawTarget.TheVariants as place
use Rattle.c_tree.specs.declared.raw.statement.RawArg.{RawArg}
use Rattle.c_tree.specs.declared.raw.statement.RawArg.TheVariants as arg
use Rattle.c_language.specs.Words.{Bytes}
use Rattle.c_language.specs.Constants.{literal_bytes}
use Rattle.c_language.specs.DeclaredTypes.{has_stdio, has_stdlib, definition_of, parameter_types, result_type, variable_type, integer}
use Rattle.c_language.specs.Scopes.{Scope, Meaning, meaning_in}
use Rattle.c_language.specs.ExprTypes.{operand, a_value, value_type, is_integer, is_pointer, is_scalar, is_assignable}
use Rattle.c_language.specs.ExprRules.{is_function}
use Rattle.c_language.specs.Formats.{Conversion, Piece, format_pieces, conversions}
use Rattle.c_language.specs.Phrases.{Stand, InFile, InHead, InBlock, InArm, InFor, Part, Calls}
use Rattle.c_language.specs.Uses.{expressions, target_exprs, arg_exprs, is_library_function, is_among}
use Rattle.c_language.specs.Rules.{Breaks, undeclared, main, no_definition, no_place, arguments, result, format, library, initialiser, misplaced, no_header}
use Rattle.c_language.specs.NameRules.{main_name, is_main, UsesUndeclared, MisusesMain, LacksDefinition, LacksHeader}
use Rattle.c_language.specs.ArrayRules.{MisusesInitialiser}
use Rattle.c_language.specs.TypeRules.{AssignsNoPlace, IsNoTarget}
use Rattle.c_language.specs.SwitchRules.{MisplacesDeclaration}
use Rattle.c_language.specs.CallRules.{HasUnfitArgument, MisusesArguments, MisusesResult, HasUnfitWidth, MisusesFormat, MisusesLibrary, target_type, without_result, format_in, later_args, pieces_in, only_arg}
use Rattle.c_language.specs.declared.expr_type.ExprType.{ExprType}
use Rattle.c_language.specs.declared.expr_type.Operand.{Operand}
use Rattle.c_language.proofs.Lists.{contains_nil, contains_cons, contains_first, contains_later, same_bytes}
use Rattle.c_language.proofs.UseLemmas.{only_in, later_in}
use Rattle.c_types_checks.specs.Checking.{Verdict, kept, is_target}
use Rattle.c_types_checks.specs.CallChecks.{is_no_target, begins_for, fits_parameter, fits_conversion, has_null_byte, check_target, check_each, check_result, check_own, check_only, check_free, check_putchar, check_getchar, check_printf, check_named, check_call}
use Rattle.c_types_base.proofs.JudgingLaws.{Keeps, keeps_all}
use Rattle.c_types_base.proofs.PhraseLemmas.{clash, are_faultless}
use Rattle.c_types_checks.proofs.KeptPhrases.{OfOperand}
use Rattle.c_types_checks.proofs.KeptCalls.{TargetIsRight, CallIsRight, keeps-Calls}
use Rattle.c_types_checks.proofs.TestLemmas.{same_some, none_some, is_something, any_passes, none_passes, is_empty, is_no_empty}
use Rattle.c_types_base.proofs.TypedLaws.{IsTyped}
use Rattle.c_types_checks.proofs.Findings.{Finds, IsTrue, by_test, by_given, by_option, by_both, by_facts, by_if, by_judged}
use Rattle.c_types_checks.proofs.CheckLaws.{no_target, of_operand}
use Rattle.c_types_base.proofs.ListingLaws.{gone}

-- ---- targets and arguments

stored_nowhere : (to : RawTarget) → is_no_target to ≡ true → to ≡ place.None
stored_nowhere place.None h = refl
stored_nowhere (place.Place e) h = clash refl h
stored_nowhere (place.Declared var) h = clash refl h

stored_somewhere : (to : RawTarget) → is_no_target to ≡ false → to ≢ place.None
stored_somewhere to h is = clash {b = is_no_target to} h (ap is_no_target is)

module _ (raw : RawProgram) (scope : Scope) where
  pub target_values : (to : RawTarget) → TargetIsRight raw scope to → (e : RawExpr) → Contains (target_exprs to) e → Keeps raw scope e
  target_values place.None right e c = absurd (contains_nil e c)
  target_values (place.Place left) right e c = elim (contains_cons left e [] c) [
    | inl is ↦ subst (Keeps raw scope) is right.0
    | inr c ↦ absurd (contains_nil e c)
  ]
  target_values (place.Declared var) right e c = absurd (contains_nil e c)

  -- each argument is judged, and fits what is wanted of it
  abbrev pub AllFit : {A : Type 0} → (A → Operand → Bool) → List A → List RawArg → Type 0
  AllFit fits ws [] = Unit {0}
  AllFit fits [] (arg.Value e ∷ args) = Keeps raw scope e × AllFit fits [] args
  AllFit fits [] (arg.Literal text ∷ args) = AllFit fits [] args
  AllFit fits (w ∷ ws) (arg.Value e ∷ args) = Keeps raw scope e × (OfOperand raw scope e (λ x. fits w x ≡ true) × AllFit fits ws args)
  AllFit fits (w ∷ ws) (arg.Literal text ∷ args) = ⊥

  values_of : {A : Type 0} (fits : A → Operand → Bool) (ws : List A) (args : List RawArg) → AllFit fits ws args
      → (m : RawExpr) → Contains (arg_exprs args) m → Keeps raw scope m
  values_of fits ws [] right m c = absurd (contains_nil m c)
  values_of fits [] (arg.Value e ∷ args) right m c = keeps_all raw scope e (arg_exprs args) right.0 (values_of fits [] args right.1) m c
  values_of fits [] (arg.Literal text ∷ args) right m c = values_of fits [] args right m c
  values_of fits (w ∷ ws) (arg.Value e ∷ args) right m c = keeps_all raw scope e (arg_exprs args) right.0 (values_of fits ws args right.1.1) m c
  values_of fits (w ∷ ws) (arg.Literal text ∷ args) right m c = absurd right

  no_unfit_argument : (ts : List (Option ExprType)) (args : List RawArg) → AllFit fits_parameter ts args → HasUnfitArgument raw scope ts args → ⊥
  no_unfit_argument ts args right (HasUnfitArgument.value {t} {ts = us} {e} {args = rest} {x} is isnt) = clash isnt (right.1.0 x is)
  no_unfit_argument ts args right HasUnfitArgument.literal = right
  no_unfit_argument ts (arg.Value e ∷ rest) right (HasUnfitArgument.later {t} {ts = us} h) = no_unfit_argument us rest right.1.1 h
  no_unfit_argument ts (arg.Literal text ∷ rest) right (HasUnfitArgument.later {t} {ts = us} h) = right

  no_unfit_width : (cs : List Conversion) (args : List RawArg) → AllFit fits_conversion cs args → HasUnfitWidth raw scope cs args → ⊥
  no_unfit_width cs args right (HasUnfitWidth.value {c} {cs = ds} {e} {args = rest} {x} is isnt) = clash isnt (right.1.0 x is)
  no_unfit_width cs args right HasUnfitWidth.literal = right
  no_unfit_width cs (arg.Value e ∷ rest) right (HasUnfitWidth.later {c} {cs = ds} h) = no_unfit_width ds rest right.1.1 h
  no_unfit_width cs (arg.Literal text ∷ rest) right (HasUnfitWidth.later {c} {cs = ds} h) = right

  unfit_value : (t : Option ExprType) (ts : List (Option ExprType)) (e : RawExpr) (args : List RawArg) (x : Operand)
      → operand raw scope e ≡ Some x → fits_parameter t x ≡ false → HasUnfitArgument raw scope (t ∷ ts) (arg.Value e ∷ args)
  unfit_value None ts e args x is isnt = clash isnt refl
  unfit_value (Some t) ts e args x is isnt = HasUnfitArgument.value is isnt

module _ (raw : RawProgram) (scope : Scope) (typed : IsTyped raw scope) (part : Part) where
  pub target_true : (K : Type 0) (to : RawTarget) (f : Option ExprType → Verdict) → ((e : RawExpr) → Contains (target_exprs to) e → Contains (expressions part) e)
      → ((left : RawExpr) → to ≡ place.Place left → IsNoTarget raw scope left → Breaks raw scope part 14)
      → ((var : RawVar) (t : ExprType) → to ≡ place.Declared var → variable_type raw var init.None ≡ Some t → is_scalar t ≡ false → Breaks raw scope part 22)
      → (TargetIsRight raw scope to → Finds (Breaks raw scope part) K (f (target_type raw scope to)))
      → Finds (Breaks raw scope part) K (check_target raw scope to f)
  target_true K place.None f inside places whole go = go tt
  target_true K (place.Place left) f inside places whole go =
      by_judged raw scope part typed K left _ (inside left (contains_first left [])) (λ x is keeps.
      by_test (Breaks raw scope part) K (is_target raw scope x) 14 _ (λ isnt. places left refl (no_target raw scope left x is isnt)) (λ target.
      subst (λ (t : Option ExprType). Finds (Breaks raw scope part) K (f t)) (ap (option_map (λ (z : Operand). z.shape)) is)
      (go (keeps, of_operand raw scope left x (λ (z : Operand). (z.is_place && is_scalar z.shape) ≡ true) is target))))
  target_true K (place.Declared var) f inside places whole go =
      by_both (Breaks raw scope part) ((t : ExprType) → variable_type raw var init.None ≡ Some t → is_scalar t ≡ true) K _ _
      (by_option (Breaks raw scope part) _ _ (variable_type raw var init.None) (λ none t is. none_some none is) (λ t is.
      by_test (Breaks raw scope part) _ (is_scalar t) 22 kept (λ isnt. whole var t refl is isnt) (λ scalar u also.
      subst (λ (v : ExprType). is_scalar v ≡ true) (same_some is also) scalar))) (λ right. go right)

  each_nothing : {A : Type 0} (n : ℕ) (fits : A → Operand → Bool) (args : List RawArg) → ((e : RawExpr) → Contains (arg_exprs args) e → Contains (expressions part) e)
      → Finds (Breaks raw scope part) (AllFit raw scope fits [] args) (check_each raw scope n fits [] args)
  each_nothing n fits [] inside = tt
  each_nothing n fits (arg.Value e ∷ args) inside =
      by_judged raw scope part typed _ e _ (inside e (contains_first e (arg_exprs args))) (λ x is keeps.
      by_facts (Breaks raw scope part) (AllFit raw scope fits [] args) _ _ (λ rest. (keeps, rest))
      (each_nothing n fits args (λ m c. inside m (contains_later e m (arg_exprs args) c))))
  each_nothing n fits (arg.Literal text ∷ args) inside = each_nothing n fits args inside

  each_true : {A : Type 0} (n : ℕ) (fits : A → Operand → Bool) (U : List A → List RawArg → Type 0)
      → ((w : A) (ws : List A) (e : RawExpr) (args : List RawArg) (x : Operand) → operand raw scope e ≡ Some x → fits w x ≡ false → U (w ∷ ws) (arg.Value e ∷ args))
      → ((w : A) (ws : List A) (text : Bytes) (args : List RawArg) → U (w ∷ ws) (arg.Literal text ∷ args))
      → ((w : A) (ws : List A) (a : RawArg) (args : List RawArg) → U ws args → U (w ∷ ws) (a ∷ args))
      → (ws : List A) (args : List RawArg) → ((e : RawExpr) → Contains (arg_exprs args) e → Contains (expressions part) e)
      → (U ws args → Breaks raw scope part n) → Finds (Breaks raw scope part) (AllFit raw scope fits ws args) (check_each raw scope n fits ws args)
  each_true n fits U value literal later ws [] inside breaks = tt
  each_true n fits U value literal later [] (a ∷ args) inside breaks = each_nothing n fits (a ∷ args) inside
  each_true n fits U value literal later (w ∷ ws) (arg.Value e ∷ args) inside breaks =
      by_judged raw scope part typed _ e _ (inside e (contains_first e (arg_exprs args))) (λ x is keeps.
      by_test (Breaks raw scope part) _ (fits w x) n _ (λ isnt. breaks (value w ws e args x is isnt)) (λ fit.
      by_facts (Breaks raw scope part) (AllFit raw scope fits ws args) _ _ (λ rest. (keeps, (of_operand raw scope e x (λ (z : Operand). fits w z ≡ true) is fit, rest)))
      (each_true n fits U value literal later ws args (λ m c. inside m (contains_later e m (arg_exprs args) c)) (λ u. breaks (later w ws (arg.Value e) args u)))))
  each_true n fits U value literal later (w ∷ ws) (arg.Literal text ∷ args) inside breaks = breaks (literal w ws text args)

-- ---- names of functions

function_is : (m : Option Meaning) → is_function m ≡ true → m ≡ Some Meaning.Function
function_is None h = clash refl h
function_is (Some Meaning.Function) h = refl
function_is (Some (Meaning.Variable id t)) h = clash refl h

-- the name is none of the library's
pub record IsOwn (f : Bytes) : Type 0 where
  pub free : bytes_eq f (codes "free") ≡ false
  pub putchar : bytes_eq f (codes "putchar") ≡ false
  pub getchar : bytes_eq f (codes "getchar") ≡ false
  pub printf : bytes_eq f (codes "printf") ≡ false

own_function : (f : Bytes) → IsOwn f → is_library_function f ≡ false
own_function f own = or_from _ _ own.getchar (or_from _ _ own.putchar (or_from _ _ own.printf (or_from _ _ own.free refl)))

own_result_used : (f : Bytes) → IsOwn f → is_among without_result f ≡ false
own_result_used f own = or_from _ _ own.putchar (or_from _ _ own.printf (or_from _ _ own.free refl))

only_is : (args : List RawArg) (e : RawExpr) → only_arg args ≡ Some e → args ≡ arg.Value e ∷ []
only_is [] e h = none_some refl h
only_is (arg.Value a ∷ []) e h = ap (λ (x : RawExpr). arg.Value x ∷ []) (same_some refl h)
only_is (arg.Literal text ∷ []) e h = none_some refl h
only_is (arg.Value a ∷ (b ∷ rest)) e h = none_some refl h
only_is (arg.Literal text ∷ (b ∷ rest)) e h = none_some refl h

in_only : (args : List RawArg) (e m : RawExpr) → only_arg args ≡ Some e → Contains (arg_exprs args) m → e ≡ m
in_only args e m h c = elim (contains_cons e m [] (subst (λ (xs : List RawArg). Contains (arg_exprs xs) m) (only_is args e h) c)) [
  | inl is ↦ is
  | inr c ↦ absurd (contains_nil m c)
]

in_format : (args : List RawArg) (text : Bytes) → format_in args ≡ Some text → (m : RawExpr) → Contains (arg_exprs args) m → Contains (arg_exprs (later_args args)) m
in_format [] text h m c = none_some refl h
in_format (arg.Value e ∷ rest) text h m c = none_some refl h
in_format (arg.Literal t ∷ rest) text h m c = c

-- ---- what a call keeps, by the name of its function

module _ (raw : RawProgram) (scope : Scope) (stand : Stand) (to : RawTarget) (f : Bytes) (args : List RawArg) where
  -- the result of the function can be stored
  abbrev pub ResultFits : RawHead → Type 0
  ResultFits head =
      (to ≢ place.None → head.result ≢ None)
      × ((r t : ExprType) → result_type raw head ≡ Some r → target_type raw scope to ≡ Some t → is_assignable t (a_value r) ≡ true)

  -- the arguments after a format are those that it asks for
  pub record FormatIsRight : Type 0 where
    pub text : Bytes
    pub pieces : List Piece
    pub first : format_in args ≡ Some text
    pub plain : has_null_byte text ≡ false
    pub read : format_pieces (literal_bytes text) ≡ Some pieces
    pub count : length (later_args args) ≡ length (conversions pieces)
    pub fit : AllFit raw scope fits_conversion (conversions pieces) (later_args args)

  -- a call has one argument, for which the test passes
  pub record OnlyIsRight (fits : Operand → Bool) : Type 0 where
    pub value : RawExpr
    pub only : only_arg args ≡ Some value
    pub keeps : Keeps raw scope value
    pub fit : OfOperand raw scope value (λ x. fits x ≡ true)

module _ (raw : RawProgram) (scope : Scope) where
  no_arguments : (stand : Stand) (to : RawTarget) (f : Bytes) (args : List RawArg) → is_library_function f ≡ true → MisusesArguments raw scope (Calls stand to f args) → ⊥
  no_arguments stand to f args listed (MisusesArguments.count own is isnt) = clash own listed
  no_arguments stand to f args listed (MisusesArguments.unfit own is h) = clash own listed

  own_arguments : (stand : Stand) (to : RawTarget) (f : Bytes) (args : List RawArg) → (head : RawHead) → definition_of raw f ≡ Some head → length args ≡ length head.params
      → AllFit raw scope fits_parameter (parameter_types raw head) args → MisusesArguments raw scope (Calls stand to f args) → ⊥
  own_arguments stand to f args head is equal fit (MisusesArguments.count {head = other} own also isnt) =
      isnt (subst (λ (h : RawHead). length args ≡ length h.params) (same_some is also) equal)
  own_arguments stand to f args head is equal fit (MisusesArguments.unfit {head = other} own also h) =
      no_unfit_argument raw scope (parameter_types raw head) args fit
      (subst (λ (g : RawHead). HasUnfitArgument raw scope (parameter_types raw g) args) (same_some also is) h)

  unused_result : (stand : Stand) (to : RawTarget) (f : Bytes) (args : List RawArg) → is_library_function f ≡ true → bytes_eq f (codes "getchar") ≡ false → to ≡ place.None → MisusesResult raw scope (Calls stand to f args) → ⊥
  unused_result stand to f args listed other none (MisusesResult.library used one) = used none
  unused_result stand to f args listed other none (MisusesResult.input typed isnt) = clash other refl
  unused_result stand to f args listed other none (MisusesResult.no_result own used is lacks) = clash own listed
  unused_result stand to f args listed other none (MisusesResult.unfit own is of_result typed isnt) = clash own listed

  read_result : (stand : Stand) (to : RawTarget) (f : Bytes) (args : List RawArg) → is_library_function f ≡ true → is_among without_result f ≡ false
      → ((t : ExprType) → target_type raw scope to ≡ Some t → is_assignable t (a_value (integer Int)) ≡ true) → MisusesResult raw scope (Calls stand to f args) → ⊥
  read_result stand to f args listed used_one fits (MisusesResult.library used one) = clash used_one one
  read_result stand to f args listed used_one fits (MisusesResult.input {t} typed isnt) = clash isnt (fits t typed)
  read_result stand to f args listed used_one fits (MisusesResult.no_result own used is lacks) = clash own listed
  read_result stand to f args listed used_one fits (MisusesResult.unfit own is of_result typed isnt) = clash own listed

  own_result : (stand : Stand) (to : RawTarget) (f : Bytes) (args : List RawArg) → IsOwn f → (head : RawHead) → definition_of raw f ≡ Some head → ResultFits raw scope stand to f args head → MisusesResult raw scope (Calls stand to f args) → ⊥
  own_result stand to f args own head is fits (MisusesResult.library used one) = clash (own_result_used f own) one
  own_result stand to f args own head is fits (MisusesResult.input {t} typed isnt) = clash own.getchar refl
  own_result stand to f args own head is fits (MisusesResult.no_result {head = other} o used also lacks) =
      fits.0 used (subst (λ (h : RawHead). h.result ≡ None) (same_some also is) lacks)
  own_result stand to f args own head is fits (MisusesResult.unfit {head = other} {t} {result = r} o also of_result typed isnt) =
      clash isnt (fits.1 r t (subst (λ (h : RawHead). result_type raw h ≡ Some r) (same_some also is) of_result) typed)

  no_formats : (stand : Stand) (to : RawTarget) (f : Bytes) (args : List RawArg) → bytes_eq f (codes "printf") ≡ false → MisusesFormat raw scope (Calls stand to f args) → ⊥
  no_formats stand to f args other (MisusesFormat.no_format none) = clash other refl
  no_formats stand to f args other (MisusesFormat.null_byte is c) = clash other refl
  no_formats stand to f args other (MisusesFormat.conversion none) = clash other refl
  no_formats stand to f args other (MisusesFormat.count is isnt) = clash other refl
  no_formats stand to f args other (MisusesFormat.unfit is h) = clash other refl

  right_pieces : (stand : Stand) (to : RawTarget) (f : Bytes) (args : List RawArg) → (right : FormatIsRight raw scope stand to f args) → pieces_in args ≡ Some right.pieces
  right_pieces stand to f args right = ap (option_and_then (λ (text : Bytes). format_pieces (literal_bytes text))) right.first ∙ right.read

  right_format : (stand : Stand) (to : RawTarget) (f : Bytes) (args : List RawArg) → FormatIsRight raw scope stand to f args → MisusesFormat raw scope (Calls stand to f args) → ⊥
  right_format stand to f args right (MisusesFormat.no_format none) = none_some none right.first
  right_format stand to f args right (MisusesFormat.null_byte {text = t} is c) =
      clash
      (none_passes (λ (b : ℕ). b == 0) (literal_bytes t)
      (subst (λ (w : Bytes). has_null_byte w ≡ false) (same_some right.first is) right.plain) 0 c) refl
  right_format stand to f args right (MisusesFormat.conversion none) = none_some none (right_pieces stand to f args right)
  right_format stand to f args right (MisusesFormat.count {ps = qs} is isnt) =
      isnt (subst (λ (ps : List Piece). length (later_args args) ≡ length (conversions ps)) (same_some (right_pieces stand to f args right) is) right.count)
  right_format stand to f args right (MisusesFormat.unfit {ps = qs} is h) =
      no_unfit_width raw scope (conversions right.pieces) (later_args args) right.fit
      (subst (λ (ps : List Piece). HasUnfitWidth raw scope (conversions ps) (later_args args)) (same_some is (right_pieces stand to f args right)) h)

  no_libraries : (stand : Stand) (to : RawTarget) (f : Bytes) (args : List RawArg) → bytes_eq f (codes "free") ≡ false → bytes_eq f (codes "putchar") ≡ false → bytes_eq f (codes "getchar") ≡ false
      → MisusesLibrary raw scope (Calls stand to f args) → ⊥
  no_libraries stand to f args a b c (MisusesLibrary.free_count none) = clash a refl
  no_libraries stand to f args a b c (MisusesLibrary.free_type one is isnt) = clash a refl
  no_libraries stand to f args a b c (MisusesLibrary.putchar_count none) = clash b refl
  no_libraries stand to f args a b c (MisusesLibrary.putchar_type one is isnt) = clash b refl
  no_libraries stand to f args a b c (MisusesLibrary.getchar_count isnt) = clash c refl

  same_only : (stand : Stand) (to : RawTarget) (f : Bytes) (args : List RawArg) → (fits : Operand → Bool) (right : OnlyIsRight raw scope stand to f args fits) (e : RawExpr) (x : Operand) → only_arg args ≡ Some e → operand raw scope e ≡ Some x
      → fits x ≡ true
  same_only stand to f args fits right e x one is = right.fit x (subst (λ (m : RawExpr). operand raw scope m ≡ Some x) (same_some one right.only) is)

  only_values : (stand : Stand) (to : RawTarget) (f : Bytes) (args : List RawArg) → (fits : Operand → Bool) (right : OnlyIsRight raw scope stand to f args fits) (m : RawExpr) → Contains (arg_exprs args) m → Keeps raw scope m
  only_values stand to f args fits right m c = subst (Keeps raw scope) (in_only args right.value m right.only c) right.keeps

  freed : (stand : Stand) (to : RawTarget) (f : Bytes) (args : List RawArg) → bytes_eq f (codes "putchar") ≡ false → bytes_eq f (codes "getchar") ≡ false → OnlyIsRight raw scope stand to f args (λ x. is_pointer (value_type x.shape))
      → MisusesLibrary raw scope (Calls stand to f args) → ⊥
  freed stand to f args b c right (MisusesLibrary.free_count none) = none_some none right.only
  freed stand to f args b c right (MisusesLibrary.free_type {e} {x} one is isnt) = clash isnt (same_only stand to f args (λ x. is_pointer (value_type x.shape)) right e x one is)
  freed stand to f args b c right (MisusesLibrary.putchar_count none) = clash b refl
  freed stand to f args b c right (MisusesLibrary.putchar_type one is isnt) = clash b refl
  freed stand to f args b c right (MisusesLibrary.getchar_count isnt) = clash c refl

  put : (stand : Stand) (to : RawTarget) (f : Bytes) (args : List RawArg) → bytes_eq f (codes "free") ≡ false → bytes_eq f (codes "getchar") ≡ false → OnlyIsRight raw scope stand to f args (λ x. is_integer x.shape)
      → MisusesLibrary raw scope (Calls stand to f args) → ⊥
  put stand to f args a c right (MisusesLibrary.free_count none) = clash a refl
  put stand to f args a c right (MisusesLibrary.free_type one is isnt) = clash a refl
  put stand to f args a c right (MisusesLibrary.putchar_count none) = none_some none right.only
  put stand to f args a c right (MisusesLibrary.putchar_type {e} {x} one is isnt) = clash isnt (same_only stand to f args (λ x. is_integer x.shape) right e x one is)
  put stand to f args a c right (MisusesLibrary.getchar_count isnt) = clash c refl

  got : (stand : Stand) (to : RawTarget) (f : Bytes) (args : List RawArg) → bytes_eq f (codes "free") ≡ false → bytes_eq f (codes "putchar") ≡ false → args ≡ [] → MisusesLibrary raw scope (Calls stand to f args) → ⊥
  got stand to f args a b none (MisusesLibrary.free_count none_given) = clash a refl
  got stand to f args a b none (MisusesLibrary.free_type one is isnt) = clash a refl
  got stand to f args a b none (MisusesLibrary.putchar_count none_given) = clash b refl
  got stand to f args a b none (MisusesLibrary.putchar_type one is isnt) = clash b refl
  got stand to f args a b none (MisusesLibrary.getchar_count isnt) = isnt none

  library_placed : (stand : Stand) (to : RawTarget) (f : Bytes) (args : List RawArg) → is_library_function f ≡ true → MisplacesDeclaration raw scope (Calls stand to f args) → ⊥
  library_placed stand to f args listed (MisplacesDeclaration.in_for own) = clash own listed

  own_placed : (stand : Stand) (to : RawTarget) (f : Bytes) (args : List RawArg) → begins_for stand to ≡ false → MisplacesDeclaration raw scope (Calls stand to f args) → ⊥
  own_placed stand to f args h (MisplacesDeclaration.in_for own) = clash h refl

  named_as : (stand : Stand) (to : RawTarget) (f : Bytes) (args : List RawArg) → (g : Bytes) (n : ℕ) → f ≡ g → Breaks raw scope (Calls stand to g args) n → Breaks raw scope (Calls stand to f args) n
  named_as stand to f args g n is b = subst (λ (name : Bytes). Breaks raw scope (Calls stand to name args) n) (sym is) b

stored_for : (to : RawTarget) (head : RawHead) → (is_no_target to || is_some head.result) ≡ true → to ≢ place.None → head.result ≢ None
stored_for to head gives used none = elim (or_cases (is_no_target to) _ gives) [
  | inl unused ↦ used (stored_nowhere to unused)
  | inr some ↦ is_something head.result some none
]

defined_for : (raw : RawProgram) (scope : Scope) (f : Bytes) → (not (is_function (meaning_in scope f)) || is_some (definition_of raw f)) ≡ true
    → meaning_in scope f ≡ Some Meaning.Function → definition_of raw f ≢ None
defined_for raw scope f known is none = elim (or_cases (not (is_function (meaning_in scope f))) _ known) [
  | inl isnt ↦ clash {b = is_function (meaning_in scope f)} (not-true _ isnt) (ap is_function is)
  | inr some ↦ is_something (definition_of raw f) some none
]

misplaced_by : (raw : RawProgram) (scope : Scope) (stand : Stand) (to : RawTarget) (f : Bytes) (args : List RawArg)
    → is_library_function f ≡ false → begins_for stand to ≡ true → Breaks raw scope (Calls stand to f args) 23
misplaced_by raw scope InFor (place.Declared var) f args own h = misplaced (MisplacesDeclaration.in_for own)
misplaced_by raw scope InFor place.None f args own h = clash refl h
misplaced_by raw scope InFor (place.Place e) f args own h = clash refl h
misplaced_by raw scope (InFile is_static) to f args own h = clash refl h
misplaced_by raw scope InHead to f args own h = clash refl h
misplaced_by raw scope InBlock to f args own h = clash refl h
misplaced_by raw scope InArm to f args own h = clash refl h

module _ (raw : RawProgram) (scope : Scope) (typed : IsTyped raw scope) (stand : Stand) (to : RawTarget) (f : Bytes) (args : List RawArg) where
  abbrev AsCall : Type 0
  AsCall = CallIsRight raw scope stand to f args

  abbrev B : ℕ → Type 0
  B = Breaks raw scope (Calls stand to f args)

  argument_in : (e : RawExpr) → Contains (arg_exprs args) e → Contains (expressions (Calls stand to f args)) e
  argument_in e c = Contains-append_right (target_exprs to) (arg_exprs args) e c

  only_true : (fits : Operand → Bool) → (only_arg args ≡ None → B 21)
      → ((e : RawExpr) (x : Operand) → only_arg args ≡ Some e → operand raw scope e ≡ Some x → fits x ≡ false → B 21)
      → Finds B (OnlyIsRight raw scope stand to f args fits) (check_only raw scope fits args)
  only_true fits none unfit =
      by_given B (OnlyIsRight raw scope stand to f args fits) 21 _ (only_arg args) none (λ e only.
      by_judged raw scope (Calls stand to f args) typed (OnlyIsRight raw scope stand to f args fits) e _ (argument_in e (only_in args e only)) (λ x is keeps.
      by_test B (OnlyIsRight raw scope stand to f args fits) (fits x) 21 kept (λ isnt. unfit e x only is isnt) (λ fit.
      record { value = e; only = only; keeps = keeps; fit = of_operand raw scope e x (λ (z : Operand). fits z ≡ true) is fit })))

  free_true : f ≡ codes "free" → Finds B AsCall (check_free raw scope to args)
  free_true is =
      let listed : is_library_function f ≡ true = subst (λ (g : Bytes). is_library_function g ≡ true) (sym is) refl in
      let no_put : bytes_eq f (codes "putchar") ≡ false = subst (λ (g : Bytes). bytes_eq g (codes "putchar") ≡ false) (sym is) refl in
      let no_get : bytes_eq f (codes "getchar") ≡ false = subst (λ (g : Bytes). bytes_eq g (codes "getchar") ≡ false) (sym is) refl in
      let no_print : bytes_eq f (codes "printf") ≡ false = subst (λ (g : Bytes). bytes_eq g (codes "printf") ≡ false) (sym is) refl in
      let as_free = named_as raw scope stand to f args (codes "free") in
      by_test B AsCall (has_stdlib raw) 24 _ (λ isnt. as_free 24 is (no_header (LacksHeader.release isnt))) (λ header.
      by_test B AsCall (is_no_target to) 17 _ (λ isnt. as_free 17 is (result (MisusesResult.library (stored_somewhere to isnt) refl))) (λ unused.
      by_facts B (OnlyIsRight raw scope stand to f args (λ x. is_pointer (value_type x.shape))) AsCall _ (λ right. record {
        known = λ own. clash own listed;
        arguments = no_arguments raw scope stand to f args listed;
        result = unused_result raw scope stand to f args listed no_get (stored_nowhere to unused);
        format = no_formats raw scope stand to f args no_print;
        library = freed raw scope stand to f args no_put no_get right;
        placed = library_placed raw scope stand to f args listed;
        header = record { free = λ e. header; putchar = λ e. clash no_put e; getchar = λ e. clash no_get e; printf = λ e. clash no_print e };
        values = only_values raw scope stand to f args (λ x. is_pointer (value_type x.shape)) right;
      }) (only_true (λ x. is_pointer (value_type x.shape)) (λ none. as_free 21 is (library (MisusesLibrary.free_count none)))
      (λ e x one judged isnt. as_free 21 is (library (MisusesLibrary.free_type one judged isnt))))))

  putchar_true : f ≡ codes "putchar" → Finds B AsCall (check_putchar raw scope to args)
  putchar_true is =
      let listed : is_library_function f ≡ true = subst (λ (g : Bytes). is_library_function g ≡ true) (sym is) refl in
      let no_free : bytes_eq f (codes "free") ≡ false = subst (λ (g : Bytes). bytes_eq g (codes "free") ≡ false) (sym is) refl in
      let no_get : bytes_eq f (codes "getchar") ≡ false = subst (λ (g : Bytes). bytes_eq g (codes "getchar") ≡ false) (sym is) refl in
      let no_print : bytes_eq f (codes "printf") ≡ false = subst (λ (g : Bytes). bytes_eq g (codes "printf") ≡ false) (sym is) refl in
      let as_put = named_as raw scope stand to f args (codes "putchar") in
      by_test B AsCall (has_stdio raw) 24 _ (λ isnt. as_put 24 is (no_header (LacksHeader.output isnt))) (λ header.
      by_test B AsCall (is_no_target to) 17 _ (λ isnt. as_put 17 is (result (MisusesResult.library (stored_somewhere to isnt) refl))) (λ unused.
      by_facts B (OnlyIsRight raw scope stand to f args (λ x. is_integer x.shape)) AsCall _ (λ right. record {
        known = λ own. clash own listed;
        arguments = no_arguments raw scope stand to f args listed;
        result = unused_result raw scope stand to f args listed no_get (stored_nowhere to unused);
        format = no_formats raw scope stand to f args no_print;
        library = put raw scope stand to f args no_free no_get right;
        placed = library_placed raw scope stand to f args listed;
        header = record { free = λ e. clash no_free e; putchar = λ e. header; getchar = λ e. clash no_get e; printf = λ e. clash no_print e };
        values = only_values raw scope stand to f args (λ x. is_integer x.shape) right;
      }) (only_true (λ x. is_integer x.shape) (λ none. as_put 21 is (library (MisusesLibrary.putchar_count none)))
      (λ e x one judged isnt. as_put 21 is (library (MisusesLibrary.putchar_type one judged isnt))))))

  getchar_true : f ≡ codes "getchar" → Finds B AsCall (check_getchar raw scope args (target_type raw scope to))
  getchar_true is =
      let listed : is_library_function f ≡ true = subst (λ (g : Bytes). is_library_function g ≡ true) (sym is) refl in
      let used : is_among without_result f ≡ false = subst (λ (g : Bytes). is_among without_result g ≡ false) (sym is) refl in
      let no_free : bytes_eq f (codes "free") ≡ false = subst (λ (g : Bytes). bytes_eq g (codes "free") ≡ false) (sym is) refl in
      let no_put : bytes_eq f (codes "putchar") ≡ false = subst (λ (g : Bytes). bytes_eq g (codes "putchar") ≡ false) (sym is) refl in
      let no_print : bytes_eq f (codes "printf") ≡ false = subst (λ (g : Bytes). bytes_eq g (codes "printf") ≡ false) (sym is) refl in
      let as_get = named_as raw scope stand to f args (codes "getchar") in
      by_test B AsCall (has_stdio raw) 24 _ (λ isnt. as_get 24 is (no_header (LacksHeader.input isnt))) (λ header.
      by_test B AsCall (length args == 0) 21 _ (λ isnt. as_get 21 is (library (MisusesLibrary.getchar_count (is_no_empty args isnt)))) (λ alone.
      by_facts B ((t : ExprType) → target_type raw scope to ≡ Some t → is_assignable t (a_value (integer Int)) ≡ true) AsCall _ (λ fits. record {
        known = λ own. clash own listed;
        arguments = no_arguments raw scope stand to f args listed;
        result = read_result raw scope stand to f args listed used fits;
        format = no_formats raw scope stand to f args no_print;
        library = got raw scope stand to f args no_free no_put (is_empty args alone);
        placed = library_placed raw scope stand to f args listed;
        header = record { free = λ e. clash no_free e; putchar = λ e. clash no_put e; getchar = λ e. header; printf = λ e. clash no_print e };
        values = λ e c. absurd (contains_nil e (subst (λ (xs : List RawArg). Contains (arg_exprs xs) e) (is_empty args alone) c));
      }) (by_option B _ _ (target_type raw scope to) (λ none t of_type. none_some none of_type) (λ t of_type.
      by_test B _ (is_assignable t (a_value (integer Int))) 17 kept (λ isnt. as_get 17 is (result (MisusesResult.input of_type isnt))) (λ fits u also.
      subst (λ (v : ExprType). is_assignable v (a_value (integer Int)) ≡ true) (same_some of_type also) fits)))))

  printf_true : f ≡ codes "printf" → Finds B AsCall (check_printf raw scope to args)
  printf_true is =
      let listed : is_library_function f ≡ true = subst (λ (g : Bytes). is_library_function g ≡ true) (sym is) refl in
      let no_free : bytes_eq f (codes "free") ≡ false = subst (λ (g : Bytes). bytes_eq g (codes "free") ≡ false) (sym is) refl in
      let no_put : bytes_eq f (codes "putchar") ≡ false = subst (λ (g : Bytes). bytes_eq g (codes "putchar") ≡ false) (sym is) refl in
      let no_get : bytes_eq f (codes "getchar") ≡ false = subst (λ (g : Bytes). bytes_eq g (codes "getchar") ≡ false) (sym is) refl in
      let as_print = named_as raw scope stand to f args (codes "printf") in
      by_test B AsCall (has_stdio raw) 24 _ (λ isnt. as_print 24 is (no_header (LacksHeader.format isnt))) (λ header.
      by_test B AsCall (is_no_target to) 17 _ (λ isnt. as_print 17 is (result (MisusesResult.library (stored_somewhere to isnt) refl))) (λ unused.
      by_given B AsCall 19 _ (format_in args) (λ none. as_print 19 is (format (MisusesFormat.no_format none))) (λ text first.
      by_test B AsCall (not (has_null_byte text)) 19 _ (λ isnt.
      let found = any_passes (λ (b : ℕ). b == 0) (literal_bytes text) (not-false _ isnt) in
      as_print 19 is (format (MisusesFormat.null_byte first (subst (Contains (literal_bytes text)) (eqb-true found.0 0 found.2) found.1)))) (λ plain.
      by_given B AsCall 19 _ (format_pieces (literal_bytes text)) (λ none.
      as_print 19 is (format (MisusesFormat.conversion (pieces_of text first ∙ none)))) (λ ps read.
      by_test B AsCall (length (later_args args) == length (conversions ps)) 19 _ (λ isnt.
      as_print 19 is (format (MisusesFormat.count (pieces_of text first ∙ read) (λ e. clash {b = length (later_args args) == length (conversions ps)} isnt (eq-eqb _ _ e))))) (λ count.
      by_facts B (AllFit raw scope fits_conversion (conversions ps) (later_args args)) AsCall _ (λ fit. record {
        known = λ own. clash own listed;
        arguments = no_arguments raw scope stand to f args listed;
        result = unused_result raw scope stand to f args listed no_get (stored_nowhere to unused);
        format = right_format raw scope stand to f args (record {
          text = text;
          pieces = ps;
          first = first;
          plain = not-true _ plain;
          read = read;
          count = eqb-true _ _ count;
          fit = fit;
        });
        library = no_libraries raw scope stand to f args no_free no_put no_get;
        placed = library_placed raw scope stand to f args listed;
        header = record { free = λ e. clash no_free e; putchar = λ e. clash no_put e; getchar = λ e. clash no_get e; printf = λ e. header };
        values = λ e c. values_of raw scope fits_conversion (conversions ps) (later_args args) fit e (in_format args text first e c);
      })
      (each_true raw scope typed (Calls stand to f args) 19 fits_conversion (HasUnfitWidth raw scope)
      (λ w ws e rest x judged isnt. HasUnfitWidth.value judged isnt) (λ w ws t rest. HasUnfitWidth.literal) (λ w ws a rest h. HasUnfitWidth.later h)
      (conversions ps) (later_args args) (λ e c. argument_in e (later_in args e c))
      (λ h. as_print 19 is (format (MisusesFormat.unfit (pieces_of text first ∙ read) h))))))))))
    where
      pieces_of : (text : Bytes) → format_in args ≡ Some text → pieces_in args ≡ format_pieces (literal_bytes text)
      pieces_of text first = ap (option_and_then (λ (t : Bytes). format_pieces (literal_bytes t))) first

  result_true : IsOwn f → (head : RawHead) → definition_of raw f ≡ Some head
      → Finds B (ResultFits raw scope stand to f args head) (check_result raw scope to (target_type raw scope to) head)
  result_true own head is =
      let K = ResultFits raw scope stand to f args head in
      by_test B K (is_no_target to || is_some head.result) 17 _ (λ isnt.
      let parts = or_parts (is_no_target to) _ isnt in
      result (MisusesResult.no_result (own_function f own) (stored_somewhere to parts.0) is (gone head.result parts.1))) (λ gives.
      let stored = stored_for to head gives in
      by_option B K _ (result_type raw head) (λ none. (stored, λ r t of_result typed. none_some none of_result)) (λ r of_result.
      by_option B K _ (target_type raw scope to) (λ none. (stored, λ s t of_other typed. none_some none typed)) (λ t of_type.
      by_test B K (is_assignable t (a_value r)) 17 kept (λ isnt. result (MisusesResult.unfit (own_function f own) is of_result of_type isnt)) (λ fits. (
        stored,
        λ s u of_other also.
            subst (λ (v : ExprType). is_assignable v (a_value s) ≡ true) (same_some of_type also)
            (subst (λ (v : ExprType). is_assignable t (a_value v) ≡ true) (same_some of_result of_other) fits),
      )))))

  own_true : IsOwn f → (meaning_in scope f ≡ Some Meaning.Function → definition_of raw f ≢ None)
      → Finds B AsCall (check_own raw scope stand to f args (target_type raw scope to))
  own_true own defined =
      let foreign = own_function f own in
      by_test B AsCall (is_function (meaning_in scope f)) 1 _
      (λ isnt. undeclared (UsesUndeclared.called foreign (λ e. clash {b = is_function (meaning_in scope f)} isnt (ap is_function e)))) (λ known.
      by_test B AsCall (not (begins_for stand to)) 23 _ (λ isnt. misplaced_by raw scope stand to f args foreign (not-false _ isnt)) (λ placed.
      by_option B AsCall _ (definition_of raw f) (λ none. absurd (defined (function_is _ known) none)) (λ head is.
      by_test B AsCall (length args == length head.params) 16 _
      (λ isnt. arguments (MisusesArguments.count foreign is (λ e. clash {b = length args == length head.params} isnt (eq-eqb _ _ e)))) (λ count.
      by_both B (AllFit raw scope fits_parameter (parameter_types raw head) args) AsCall _ _
      (each_true raw scope typed (Calls stand to f args) 16 fits_parameter (HasUnfitArgument raw scope) (unfit_value raw scope)
      (λ w ws t rest. HasUnfitArgument.literal) (λ w ws a rest h. HasUnfitArgument.later h) (parameter_types raw head) args argument_in
      (λ h. arguments (MisusesArguments.unfit foreign is h))) (λ fit.
      by_facts B (ResultFits raw scope stand to f args head) AsCall _ (λ stored. record {
        known = λ e. function_is _ known;
        arguments = own_arguments raw scope stand to f args head is (eqb-true _ _ count) fit;
        result = own_result raw scope stand to f args own head is stored;
        format = no_formats raw scope stand to f args own.printf;
        library = no_libraries raw scope stand to f args own.free own.putchar own.getchar;
        placed = own_placed raw scope stand to f args (not-true _ placed);
        header = record { free = λ e. clash own.free e; putchar = λ e. clash own.putchar e; getchar = λ e. clash own.getchar e; printf = λ e. clash own.printf e };
        values = values_of raw scope fits_parameter (parameter_types raw head) args fit;
      }) (result_true own head is))))))

  named_true : (meaning_in scope f ≡ Some Meaning.Function → definition_of raw f ≢ None)
      → Finds B AsCall (check_named raw scope stand to f args (target_type raw scope to))
  named_true defined =
      by_if B AsCall (bytes_eq f (codes "free")) _ _ (λ is. free_true (same_bytes f (codes "free") is)) (λ no_free.
      by_if B AsCall (bytes_eq f (codes "putchar")) _ _ (λ is. putchar_true (same_bytes f (codes "putchar") is)) (λ no_put.
      by_if B AsCall (bytes_eq f (codes "getchar")) _ _ (λ is. getchar_true (same_bytes f (codes "getchar") is)) (λ no_get.
      by_if B AsCall (bytes_eq f (codes "printf")) _ _ (λ is. printf_true (same_bytes f (codes "printf") is)) (λ no_print.
      own_true (record { free = no_free; putchar = no_put; getchar = no_get; printf = no_print }) defined))))

  pub call_true : IsTrue raw scope (Calls stand to f args) (check_call raw scope stand to f args)
  call_true =
      by_test B _ (not (is_main f)) 5 _
      (λ isnt. named_as raw scope stand to f args main_name 5 (same_bytes f main_name (not-false _ isnt)) (main MisusesMain.called)) (λ other.
      by_test B _ (not (is_function (meaning_in scope f)) || is_some (definition_of raw f)) 6 _ (λ isnt.
      let parts = or_parts (not (is_function (meaning_in scope f))) _ isnt in
      no_definition (LacksDefinition.called (function_is _ (not-false _ parts.0)) (gone (definition_of raw f) parts.1))) (λ known.
      let defined = defined_for raw scope f known in
      target_true raw scope typed (Calls stand to f args) _ to (check_named raw scope stand to f args)
      (λ e c. Contains-append_left (target_exprs to) (arg_exprs args) e c)
      (λ left is isnt. subst (λ (t : RawTarget). Breaks raw scope (Calls stand t f args) 14) (sym is) (no_place (AssignsNoPlace.result isnt)))
      (λ var t is of_type isnt. subst (λ (t : RawTarget). Breaks raw scope (Calls stand t f args) 22) (sym is) (initialiser (MisusesInitialiser.by_call of_type isnt)))
      (λ target.
      by_facts B AsCall _ _ (λ right.
      keeps-Calls raw scope stand to f args
      (are_faultless raw scope (Calls stand to f args) (λ e c. elim (Contains-append_cases (target_exprs to) (arg_exprs args) e c) [
        | inl c ↦ target_values raw scope to target e c
        | inr c ↦ right.values e c
      ])) (not-true _ other) defined target right) (named_true defined))))
