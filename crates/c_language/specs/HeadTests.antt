-- Tests of what a function's head gives, and of its last statement.
use Rattle.std.specs.Prelude.{Bool, true, false, List, [], ◌∷◌, Option, Some, None}
use Rattle.c_arith.specs.declared.int_type.IntType.{IntType}
use Rattle.c_arith.specs.declared.int_type.IntType.TheVariants.{Int}
use Rattle.c_tree.specs.declared.raw.expr.RawExpr.{RawExpr}
use Rattle.c_tree.specs.declared.raw.expr.RawType.{RawType, fold-RawType}
use Rattle.c_tree.specs.declared.raw.expr.RawType.TheOpen.{RawType-F}
use Rattle.c_tree.specs.declared.raw.statement.RawStatement.{RawStatement, out-RawStatement}
use Rattle.c_tree.specs.declared.raw.statement.RawStatement.TheOpen.{RawStatement-F}
use Rattle.c_tree.specs.declared.raw.statement.RawArm.{RawArm}

abbrev pub is_int : IntType → Bool
is_int Int = true
is_int _ = false

abbrev pub int_step : {A : Type 0} → RawType-F A → Bool
int_step (RawType-F.Integer t) = is_int t
int_step _ = false

-- the type is written `int`
abbrev pub is_int_type : RawType → Bool
is_int_type = fold-RawType Bool int_step

abbrev pub gives_int : Option RawType → Bool
gives_int None = false
gives_int (Some t) = is_int_type t

abbrev pub is_given : Option RawExpr → Bool
is_given None = false
is_given (Some e) = true

abbrev pub value_layer : RawStatement-F RawStatement RawArm → Bool
value_layer (RawStatement-F.Return l e) = is_given e
value_layer _ = false

abbrev pub returns_value : RawStatement → Bool
returns_value s = value_layer (out-RawStatement s)

-- the last statement of a list returns a value
abbrev pub ends_with_value : List RawStatement → Bool
ends_with_value [] = false
ends_with_value (s ∷ []) = returns_value s
ends_with_value (s ∷ (t ∷ rest)) = ends_with_value (t ∷ rest)
