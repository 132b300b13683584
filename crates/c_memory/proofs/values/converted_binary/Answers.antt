use Rattle.std.proofs.Common.{rules, ◌≡◌, ℤ, subst}
use Rattle.std.proofs.lemmas.Int.{to_z-of_z}
use Rattle.std.specs.Int.{w128}
use Rattle.c_arith.specs.IntType.{convert}
use Rattle.c_arith.specs.Operators.{binary}
use Rattle.c_language.specs.ConstantEvaluation.{right_value}
use Rattle.c_memory.proofs.ShiftLemmas.{converted_by}
use Rattle.c_memory.proofs.values.converted_binary.Goals as goal

pub returns : goal.returns
returns c =
    let op = c.args.op in
    let t = c.args.t in
    let left = subst (λ (z : ℤ). c.convert.result ≡ convert z t) (to_z-of_z w128 c.args.x c.ranges.x) c.convert.ensures.value in
    let right =
    subst (λ (y : ℤ). (z : ℤ) → binary op t z c.right_operand.result ≡ binary op t z (right_value op t y)) (to_z-of_z w128 c.args.y c.ranges.y)
    c.right_operand.ensures.same in
    converted_by op t c.args.x c.args.y c.convert.result c.right_operand.result c.binary.result (search rules) left right
