-- Lengths of arrays that a list of values gives, as constants.
use Rattle.std.specs.Prelude.{◌≡◌, suc, pos, ℕ, List, Some, Contains, ◌⊎◌}
use Rattle.c_tree.specs.declared.raw.expr.RawExpr.{RawExpr}
use Rattle.c_tree.specs.declared.raw.expr.RawExpr.TheVariants as e
use Rattle.c_language.specs.Words.{Bytes}
use Rattle.c_language.specs.ConstantEvaluation.{value_of_constant}

-- a length as a constant of at least 1
pub record IsCountConstant (a : RawExpr) : Type 0 where
  pub text : Bytes
  pub is : a ≡ e.Constant text
  pub less : ℕ
  pub value : value_of_constant a ≡ Some (pos (suc less))

-- the lengths of one type are among those of the other, but for constants
abbrev pub LengthsAmong : List RawExpr → List RawExpr → Type 0
LengthsAmong some all = (a : RawExpr) → Contains some a → Contains all a ⊎ IsCountConstant a
