-- What is known of the arguments of a call that breaks no rule.
use Rattle.std.proofs.Common.{◌≡◌, ◌≢◌, ℕ, List, [], ◌∷◌, true, false, Some, None, option_map, option_and_then, ap, subst, ◌∙◌, inl, inr}
use Rattle.std.proofs.lemmas.Slice.Eq.{bytes_eq-Decides}
use Rattle.std.specs.Prelude.{bytes_eq, codes}
use Rattle.std.proofs.lemmas.List.Elements.{Contains-append_right}
use Rattle.c_language.proofs.Tests.{none_of}
use Rattle.c_tree.specs.declared.expr.Expr.{Expr}
use Rattle.c_tree.specs.declared.statement.Statement.TheVariants as s
use Rattle.c_tree.specs.declared.raw.expr.RawExpr.{RawExpr}
use Rattle.c_tree.specs.declared.raw.program.RawHead.{RawHead}
use Rattle.c_tree.specs.declared.raw.program.RawProgram.{RawProgram}
use Rattle.c_tree.specs.declared.raw.statement.RawArg.{RawArg}
use Rattle.c_tree.specs.declared.raw.statement.RawArg.TheVariants as arg
use Rattle.c_language.specs.Words.{Bytes}
use Rattle.c_language.specs.DeclaredTypes.{defined_functions, function_id, definition_of}
use Rattle.c_language.specs.Scopes.{Scope}
use Rattle.c_language.specs.Phrases.{Calls}
use Rattle.c_language.specs.Uses.{arg_exprs, target_exprs, is_library_function}
use Rattle.c_language.specs.Rules.{undeclared, no_definition, arguments, format, library, BreaksNone}
use Rattle.c_language.specs.NameRules.{UsesUndeclared, LacksDefinition}
use Rattle.c_language.specs.CallRules.{MisusesArguments, format_in, later_args, pieces_in, MisusesFormat, only_arg, MisusesLibrary}
use Rattle.c_language.specs.ProgramOf.{args_tree, print_tree}
use Rattle.c_language.specs.Formats.{conversions}
use Rattle.c_language.proofs.Options.{value_there, some_same, none_there}
use Rattle.c_language.proofs.Lists.{contains_nil, contains_cons, contains_first, contains_later}
use Rattle.c_language.proofs.UseLemmas.{later_in}
use Rattle.c_types_base.specs.declared.tables.Tables.{Tables}
use Rattle.c_types_base.specs.Tables.{scope_of, AreRight}
use Rattle.c_types_base.proofs.OptionLemmas.{not_none, there_position}
use Rattle.c_types_trees.specs.KeptPhrases.{IsOperand, AreOperands, IsValue, AreValues, IsKeptCall}
use Rattle.c_types_trees.proofs.CallTrees.{AreExpressions, widths_are, types_are}
use Rattle.c_types_trees.proofs.KeptLemmas.{kept_operand}
use Rattle.c_language.specs.Options.{IsThere}

module _ (raw : RawProgram) (scope : Scope) where
  -- arguments that are expressions, each of which is an operand
  values_from : (args : List RawArg) → AreExpressions args → AreOperands raw scope (arg_exprs args) → AreValues raw scope args
  values_from [] h operands a c = absurd (contains_nil a c)
  values_from (arg.Value e ∷ rest) h operands a c = elim (contains_cons (arg.Value e) a rest c) [
    | inl is ↦ subst (IsValue raw scope) is (operands e (contains_first e (arg_exprs rest)))
    | inr d ↦ values_from rest h (λ b k. operands b (contains_later e b (arg_exprs rest) k)) a d
  ]
  values_from (arg.Literal text ∷ rest) h operands a c = absurd h

  -- the one argument
  pub only_operand : (args : List RawArg) (e : RawExpr) → only_arg args ≡ Some e → AreOperands raw scope (arg_exprs args) → IsOperand raw scope e
  only_operand [] e is operands = none_there is
  only_operand (arg.Value a ∷ []) e is operands = subst (IsOperand raw scope) (some_same is) (operands a (contains_first a []))
  only_operand (arg.Value a ∷ (b ∷ rest)) e is operands = none_there is
  only_operand (arg.Literal text ∷ []) e is operands = none_there is
  only_operand (arg.Literal text ∷ (b ∷ rest)) e is operands = none_there is

  pub printed : (id line : ℕ) (args : List RawArg) (text : Bytes) (es : List Expr) → format_in args ≡ Some text → args_tree raw scope (later_args args) ≡ Some es
      → print_tree raw scope id line args ≡ Some (s.Print id line text es)
  printed id line args text es has are =
      ap (option_and_then (λ (w : Bytes). option_map (s.Print id line w) (args_tree raw scope (later_args args)))) has ∙ ap (option_map (s.Print id line text)) are

  module _ (f : Bytes) (args : List RawArg) (call : IsKeptCall raw scope f args) where
    -- what is said of a function of the library holds of this one, where it has the name
    named : (w : Bytes) → bytes_eq f w ≡ true → BreaksNone raw scope (Calls call.stand call.to w args)
    named w is = subst (λ g. BreaksNone raw scope (Calls call.stand call.to g args)) ((bytes_eq-Decides f w).0 is) call.kept

    pub putchar_only : bytes_eq f (codes "putchar") ≡ true → only_arg args ≢ None
    putchar_only is none = named (codes "putchar") is 21 (library (MisusesLibrary.putchar_count none))

    pub free_only : bytes_eq f (codes "free") ≡ true → only_arg args ≢ None
    free_only is none = named (codes "free") is 21 (library (MisusesLibrary.free_count none))

    pub printf_format : bytes_eq f (codes "printf") ≡ true → format_in args ≢ None
    printf_format is none = named (codes "printf") is 19 (format (MisusesFormat.no_format none))

    printf_expressions : bytes_eq f (codes "printf") ≡ true → AreExpressions (later_args args)
    printf_expressions is =
        let k = named (codes "printf") is in
        let found = value_there (pieces_in args) (not_none (pieces_in args) (λ e. k 19 (format (MisusesFormat.conversion e)))) in
        widths_are raw scope (conversions found.0) (later_args args)
        (λ e. k 19 (format (MisusesFormat.count found.1 e))) (λ u. k 19 (format (MisusesFormat.unfit found.1 u)))

    defined_there : is_library_function f ≡ false → IsThere (definition_of raw f)
    defined_there other =
        not_none (definition_of raw f) (λ none. call.kept 1 (undeclared (UsesUndeclared.called other (λ is. call.kept 6 (no_definition (LacksDefinition.called is none))))))

    invoked_expressions : is_library_function f ≡ false → AreExpressions args
    invoked_expressions other =
        let found = value_there (definition_of raw f) (defined_there other) in
        types_are raw scope found.0.params args
        (λ e. call.kept 16 (arguments (MisusesArguments.count other found.1 e))) (λ u. call.kept 16 (arguments (MisusesArguments.unfit other found.1 u)))

    -- what is none of the functions of the library is one of the program
    pub function_defined : bytes_eq f (codes "getchar") ≡ false → bytes_eq f (codes "putchar") ≡ false → bytes_eq f (codes "printf") ≡ false
        → bytes_eq f (codes "free") ≡ false → IsThere (function_id raw f)
    function_defined first second third fourth =
        (there_position (λ (g : RawHead). bytes_eq g.name f) (defined_functions raw) (defined_there (none_of _ _ _ _ first second third fourth)))

module _ (t : Tables) (right : AreRight t) (f : Bytes) (args : List RawArg) (call : IsKeptCall t.raw.now (scope_of t) f args) where
  pub call_operands : AreOperands t.raw.now (scope_of t) (arg_exprs args)
  call_operands e c = kept_operand t right (Calls call.stand call.to f args) call.kept e (Contains-append_right (target_exprs call.to) (arg_exprs args) e c)

  pub printf_values : bytes_eq f (codes "printf") ≡ true → AreValues t.raw.now (scope_of t) (later_args args)
  printf_values is =
      values_from t.raw.now (scope_of t) (later_args args) (printf_expressions t.raw.now (scope_of t) f args call is)
      (λ e c. call_operands e (later_in args e c))

  pub function_values : bytes_eq f (codes "getchar") ≡ false → bytes_eq f (codes "putchar") ≡ false → bytes_eq f (codes "printf") ≡ false
      → bytes_eq f (codes "free") ≡ false → AreValues t.raw.now (scope_of t) args
  function_values first second third fourth =
      values_from t.raw.now (scope_of t) args
      (invoked_expressions t.raw.now (scope_of t) f args call (none_of _ _ _ _ first second third fourth)) call_operands
