-- A call that keeps its rules has its tree.
use Rattle.std.proofs.Common.{◌≡◌, ◌≢◌, ℕ, suc, List, [], ◌∷◌, length, map, Bool, true, false, Option, None, refl, subst, arith}
use Rattle.std.proofs.lemmas.Slice.Eq.{bytes_eq-Decides}
use Rattle.std.specs.Prelude.{Contains, if◌then◌else◌, bytes_eq, codes}
use Rattle.std.proofs.lemmas.List.Elements.{Contains-append_right}
use Rattle.c_language.proofs.Tests.{none_of}
use Rattle.c_tree.specs.declared.statement.Target.{Target}
use Rattle.c_tree.specs.declared.statement.Statement.TheVariants as s
use Rattle.c_tree.specs.declared.raw.expr.RawExpr.{RawExpr}
use Rattle.c_tree.specs.declared.raw.program.RawParam.{RawParam}
use Rattle.c_tree.specs.declared.raw.program.RawHead.{RawHead}
use Rattle.c_tree.specs.declared.raw.program.RawProgram.{RawProgram}
use Rattle.c_tree.specs.declared.raw.statement.RawTarget.{RawTarget}
use Rattle.c_tree.specs.declared.raw.statement.RawArg.{RawArg}
use Rattle.c_tree.specs.declared.raw.statement.RawArg.TheVariants as arg
use Rattle.c_language.specs.Words.{Bytes}
use Rattle.c_language.specs.DeclaredTypes.{defined_structs, defined_functions, function_id, definition_of, written_type}
use Rattle.c_language.specs.Scopes.{Scope}
use Rattle.c_language.specs.Phrases.{Stand, Calls}
use Rattle.c_language.specs.Uses.{arg_exprs, target_exprs, is_library_function}
use Rattle.c_language.specs.Rules.{undeclared, no_definition, arguments, format, library, BreaksNone}
use Rattle.c_language.specs.NameRules.{UsesUndeclared, LacksDefinition}
use Rattle.c_language.specs.CallRules.{HasUnfitArgument, MisusesArguments, format_in, later_args, pieces_in, HasUnfitWidth, MisusesFormat, only_arg, MisusesLibrary}
use Rattle.c_language.specs.Formats.{Conversion, conversions}
use Rattle.c_language.specs.ProgramOf.{expr_of, arg_tree, args_tree, only_tree, print_tree, invoke_tree, call_tree}
use Rattle.c_language.proofs.Options.{value_there, there_map}
use Rattle.c_language.proofs.Lists.{contains_first, contains_later}
use Rattle.c_language.proofs.UseLemmas.{later_in}
use Rattle.c_types_base.proofs.OptionLemmas.{not_none, there_then, there_both, AreThere, there_collected, there_position}
use Rattle.c_types_trees.proofs.ScopeLemmas.{IsTyped, AreComplete}
use Rattle.c_types_trees.proofs.PhraseTrees.{phrase_tree}
use Rattle.c_language.specs.Options.{IsThere}

-- of two values, the one that a test chooses
there_if : {A : Type 0} (b : Bool) (x y : Option A) → (b ≡ true → IsThere x) → (b ≡ false → IsThere y) → IsThere (if b then x else y)
there_if true x y h k = h refl
there_if false x y h k = k refl

-- ---- arguments

-- each argument is an expression
abbrev pub AreExpressions : List RawArg → Type 0
AreExpressions [] = Unit {0}
AreExpressions (arg.Value e ∷ rest) = AreExpressions rest
AreExpressions (arg.Literal text ∷ rest) = ⊥

one_fewer : (m n : ℕ) → (suc m ≢ suc n → ⊥) → m ≢ n → ⊥
one_fewer m n h k = h (λ e. k (omega (arith, e)))

module _ (raw : RawProgram) (scope : Scope) where
  -- as many arguments as conversions, each of a width, are expressions
  pub widths_are : (cs : List Conversion) (args : List RawArg) → (length args ≢ length cs → ⊥) → (HasUnfitWidth raw scope cs args → ⊥) → AreExpressions args
  widths_are cs [] same fit = tt
  widths_are [] (a ∷ args) same fit = absurd (same (λ e. omega (arith, e)))
  widths_are (c ∷ cs) (arg.Value e ∷ args) same fit = widths_are cs args (one_fewer (length args) (length cs) same) (λ u. fit (HasUnfitWidth.later u))
  widths_are (c ∷ cs) (arg.Literal text ∷ args) same fit = fit HasUnfitWidth.literal

  -- and so are as many as parameters
  pub types_are : (ps : List RawParam) (args : List RawArg) → (length args ≢ length ps → ⊥)
      → (HasUnfitArgument raw scope (map (λ (p : RawParam). written_type raw p.shape) ps) args → ⊥) → AreExpressions args
  types_are ps [] same fit = tt
  types_are [] (a ∷ args) same fit = absurd (same (λ e. omega (arith, e)))
  types_are (p ∷ ps) (arg.Value e ∷ args) same fit = types_are ps args (one_fewer (length args) (length ps) same) (λ u. fit (HasUnfitArgument.later u))
  types_are (p ∷ ps) (arg.Literal text ∷ args) same fit = fit HasUnfitArgument.literal

  abbrev AreTrees : List RawExpr → Type 0
  AreTrees es = (e : RawExpr) → Contains es e → IsThere (expr_of raw scope e)

  values_there : (args : List RawArg) → AreExpressions args → AreTrees (arg_exprs args) → AreThere (map (arg_tree raw scope) args)
  values_there [] h trees = tt
  values_there (arg.Value e ∷ rest) h trees =
      (trees e (contains_first e (arg_exprs rest)), values_there rest h (λ m c. trees m (contains_later e m (arg_exprs rest) c)))
  values_there (arg.Literal text ∷ rest) h trees = absurd h

  args_there : (args : List RawArg) → AreExpressions args → AreTrees (arg_exprs args) → IsThere (args_tree raw scope args)
  args_there args h trees = there_collected (map (arg_tree raw scope) args) (values_there args h trees)

  only_there : (args : List RawArg) → (only_arg args ≡ None → ⊥) → AreTrees (arg_exprs args) → IsThere (only_tree raw scope args)
  only_there [] one trees = one refl
  only_there (arg.Value e ∷ []) one trees = trees e (contains_first e [])
  only_there (arg.Value e ∷ (b ∷ rest)) one trees = one refl
  only_there (arg.Literal text ∷ []) one trees = one refl
  only_there (arg.Literal text ∷ (b ∷ rest)) one trees = one refl

module _ (raw : RawProgram) (complete : AreComplete raw (defined_structs raw)) (scope : Scope) (typed : IsTyped scope) where
  module _ (stand : Stand) (to : RawTarget) (f : Bytes) (args : List RawArg) (keeps : BreaksNone raw scope (Calls stand to f args)) where
    arg_trees : (e : RawExpr) → Contains (arg_exprs args) e → IsThere (expr_of raw scope e)
    arg_trees e c = phrase_tree raw complete scope typed (Calls stand to f args) keeps e (Contains-append_right (target_exprs to) (arg_exprs args) e c)

    -- what is said of a function of the library holds of this one, where it has the name
    keeps_named : (w : Bytes) → bytes_eq f w ≡ true → BreaksNone raw scope (Calls stand to w args)
    keeps_named w is = subst (λ g. BreaksNone raw scope (Calls stand to g args)) ((bytes_eq-Decides f w).0 is) keeps

    putchar_there : bytes_eq f (codes "putchar") ≡ true → IsThere (only_tree raw scope args)
    putchar_there is = only_there raw scope args (λ e. keeps_named (codes "putchar") is 21 (library (MisusesLibrary.putchar_count e))) arg_trees

    free_there : bytes_eq f (codes "free") ≡ true → IsThere (only_tree raw scope args)
    free_there is = only_there raw scope args (λ e. keeps_named (codes "free") is 21 (library (MisusesLibrary.free_count e))) arg_trees

    printf_values : bytes_eq f (codes "printf") ≡ true → AreExpressions (later_args args)
    printf_values is =
        let k = keeps_named (codes "printf") is in
        let found = value_there (pieces_in args) (not_none (pieces_in args) (λ e. k 19 (format (MisusesFormat.conversion e)))) in
        widths_are raw scope (conversions found.0) (later_args args)
        (λ e. k 19 (format (MisusesFormat.count found.1 e))) (λ u. k 19 (format (MisusesFormat.unfit found.1 u)))

    printf_there : (id line : ℕ) → bytes_eq f (codes "printf") ≡ true → IsThere (print_tree raw scope id line args)
    printf_there id line is =
        there_then _ (format_in args) (not_none (format_in args) (λ e. keeps_named (codes "printf") is 19 (format (MisusesFormat.no_format e))))
        (λ text found. there_map (s.Print id line text) (args_tree raw scope (later_args args))
        (args_there raw scope (later_args args) (printf_values is) (λ e c. arg_trees e (later_in args e c))))

    -- a function of the program is in scope, and so it is defined
    function_defined : is_library_function f ≡ false → IsThere (definition_of raw f)
    function_defined other = not_none (definition_of raw f) (λ none. keeps 1 (undeclared (UsesUndeclared.called other (λ is. keeps 6 (no_definition (LacksDefinition.called is none))))))

    function_values : is_library_function f ≡ false → AreExpressions args
    function_values other =
        let found = value_there (definition_of raw f) (function_defined other) in
        types_are raw scope found.0.params args
        (λ e. keeps 16 (arguments (MisusesArguments.count other found.1 e))) (λ u. keeps 16 (arguments (MisusesArguments.unfit other found.1 u)))

    invoke_there : (id line : ℕ) (t : Option Target) → IsThere t → is_library_function f ≡ false → IsThere (invoke_tree raw scope id line t f args)
    invoke_there id line t there other =
        there_then _ t there (λ x is. there_both (s.Invoke id line x) (function_id raw f) (args_tree raw scope args)
        (there_position (λ (g : RawHead). bytes_eq g.name f) (defined_functions raw) (function_defined other))
        (args_there raw scope args (function_values other) arg_trees))

    pub call_there : (id line : ℕ) (t : Option Target) → IsThere t → IsThere (call_tree raw scope id line t f args)
    call_there id line t there =
        there_if (bytes_eq f (codes "getchar")) _ _ (λ is. there_map (s.Fetch id line) t there) (λ first.
        there_if (bytes_eq f (codes "putchar")) _ _ (λ is. there_map (s.Write id line) (only_tree raw scope args) (putchar_there is)) (λ second.
        there_if (bytes_eq f (codes "printf")) _ _ (λ is. printf_there id line is) (λ third.
        there_if (bytes_eq f (codes "free")) _ _ (λ is. there_map (s.Release id line) (only_tree raw scope args) (free_there is)) (λ fourth.
        invoke_there id line t there (none_of _ _ _ _ first second third fourth)))))
