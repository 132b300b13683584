-- The checks of switches and their labels: the numbers of the rules that they break, or none.
use Rattle.std.specs.Prelude.{is_some, ℕ, suc, ℤ, Bool, true, false, not, ◌&&◌, List, [], ◌∷◌, nat_lt, Option, None, option_map}
use Rattle.std.specs.List.{list_any, cons_option}
use Rattle.std.specs.Ordering.{int_eq}
use Rattle.c_arith.specs.declared.int_type.IntType.{IntType}
use Rattle.c_arith.specs.IntType.{promote, convert}
use Rattle.c_tree.specs.declared.raw.expr.RawExpr.{RawExpr}
use Rattle.c_tree.specs.declared.raw.program.RawProgram.{RawProgram}
use Rattle.c_tree.specs.declared.raw.statement.RawLabel.{RawLabel}
use Rattle.c_tree.specs.declared.raw.statement.RawLabel.TheVariants as label
use Rattle.c_language.specs.ConstantEvaluation.{value_of_constant}
use Rattle.c_language.specs.Scopes.{Scope}
use Rattle.c_language.specs.ExprTypes.{integer_of}
use Rattle.c_types_checks.specs.Checking.{Verdict, kept, unless_broken, given_or, then_kept, all_kept, judging, check_expr}

abbrev pub is_default : RawLabel → Bool
is_default label.Default = true
is_default (label.Case e) = false

-- the value of a case, as the type
abbrev pub value_of_case : IntType → RawLabel → Option ℤ
value_of_case t label.Default = None
value_of_case t (label.Case e) = option_map (λ (v : ℤ). convert v t) (value_of_constant e)

-- the values of the cases, as the type
abbrev pub case_values : IntType → List RawLabel → List ℤ
case_values t [] = []
case_values t (l ∷ rest) = cons_option (value_of_case t l) (case_values t rest)

abbrev pub are_distinct : List ℤ → Bool
are_distinct [] = true
are_distinct (z ∷ zs) = not (list_any (int_eq z) zs) && are_distinct zs

-- none of the values passes the test
abbrev pub none_passes : (ℤ → Bool) → List ℤ → Bool
none_passes test [] = true
none_passes test (z ∷ zs) = not (test z) && none_passes test zs

-- the values are distinct, and none of them passes the test
abbrev pub are_apart : (ℤ → Bool) → List ℤ → Bool
are_apart test zs = none_passes test zs && are_distinct zs

abbrev pub default_count : List RawLabel → ℕ
default_count [] = 0
default_count (label.Default ∷ rest) = suc (default_count rest)
default_count (label.Case e ∷ rest) = default_count rest

module _ (raw : RawProgram) (scope : Scope) where
  abbrev pub check_label : RawLabel → Verdict
  check_label label.Default = kept
  check_label (label.Case e) = then_kept (check_expr raw scope e) (unless_broken (is_some (value_of_constant e)) 10 kept)

  abbrev pub check_labels : List RawLabel → IntType → Verdict
  check_labels labels t =
      then_kept (all_kept check_label labels)
      (unless_broken (nat_lt (default_count labels) 2) 11 (unless_broken (are_distinct (case_values (promote t) labels)) 11 kept))

  abbrev pub check_switch : RawExpr → List RawLabel → Verdict
  check_switch test labels = judging raw scope test (λ x. given_or 11 (check_labels labels) (integer_of x.shape))
