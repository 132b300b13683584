use Rattle.std.proofs.Common.{◌≡◌, ◌∙◌, sym, ap, pos, neg_ℤ, ◌-ℤ◌, arith}
use Rattle.std.proofs.lemmas.Int.{ints}
use Rattle.std.specs.Int.{w128, cast_signed, cast_unsigned}
use Rattle.c_arith.specs.Operators.{arithmetic, unary}
use Rattle.c_arith.proofs.IntTypeLaws.{LiesIn-bounds}
use Rattle.c_arith.proofs.operators.unary.Goals as goal

pub returns-in-Minus-clause-value : goal.returns-in-Minus-clause-value
unfolding unary
returns-in-Minus-clause-value c =
    let bounds = LiesIn-bounds c.args.t c.args.v c.requires in
    let exact : cast_signed w128 (cast_unsigned w128 (pos 0 -ℤ cast_signed w128 (cast_unsigned w128 c.args.v))) ≡ neg_ℤ c.args.v = omega (arith, ints) in
    c.arithmetic.ensures.value ∙ ap (arithmetic c.args.t) exact ∙ sym (ap (λ op. unary op c.args.t c.args.v) c.in-Minus.is)
