-- Signs that would join with what follows them.
use Rattle.std.specs.Prelude.{Bool, false}
use Rattle.c_arith.specs.declared.operators.UnaryOp.{UnaryOp}
use Rattle.c_arith.specs.declared.operators.UnaryOp.TheVariants.{Plus, Minus, Flip, Not}
use Rattle.c_language.specs.Words.{Bytes, begins_with}

-- the sign and its operand would make `++` or `--`
abbrev pub joins : UnaryOp → Bytes → Bool
joins Plus operand = begins_with 43 operand
joins Minus operand = begins_with 45 operand
joins Flip operand = false
joins Not operand = false
