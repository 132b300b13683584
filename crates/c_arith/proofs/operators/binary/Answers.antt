use Rattle.std.proofs.Common.{◌≡◌, ◌∙◌, sym, ap, ◌+ℤ◌, ◌-ℤ◌, arith, subst}
use Rattle.std.proofs.lemmas.Int.{ints}
use Rattle.std.specs.Int.{w128, cast_signed, cast_unsigned}
use Rattle.c_arith.specs.Operators.{arithmetic, binary, IsRightOperand}
use Rattle.c_arith.proofs.IntTypeLaws.{LiesIn-bounds}
use Rattle.c_arith.proofs.operators.binary.Goals as goal

pub returns-in-Add-clause-value : goal.returns-in-Add-clause-value
unfolding binary
returns-in-Add-clause-value c =
    let left = LiesIn-bounds c.args.t c.args.a c.requires.left in
    let right = LiesIn-bounds c.args.t c.args.b (subst (λ op. IsRightOperand op c.args.t c.args.b) c.in-Add.is c.requires.right) in
    let exact : cast_signed w128 (cast_unsigned w128 (cast_signed w128 (cast_unsigned w128 c.args.a) +ℤ cast_signed w128 (cast_unsigned w128 c.args.b))) ≡ c.args.a +ℤ c.args.b = omega (arith, ints) in
    c.arithmetic.ensures.value ∙ ap (arithmetic c.args.t) exact ∙ sym (ap (λ op. binary op c.args.t c.args.a c.args.b) c.in-Add.is)

pub returns-in-Sub-clause-value : goal.returns-in-Sub-clause-value
unfolding binary
returns-in-Sub-clause-value c =
    let left = LiesIn-bounds c.args.t c.args.a c.requires.left in
    let right = LiesIn-bounds c.args.t c.args.b (subst (λ op. IsRightOperand op c.args.t c.args.b) c.in-Sub.is c.requires.right) in
    let exact : cast_signed w128 (cast_unsigned w128 (cast_signed w128 (cast_unsigned w128 c.args.a) -ℤ cast_signed w128 (cast_unsigned w128 c.args.b))) ≡ c.args.a -ℤ c.args.b = omega (arith, ints) in
    c.arithmetic-in-Sub.ensures.value ∙ ap (arithmetic c.args.t) exact ∙ sym (ap (λ op. binary op c.args.t c.args.a c.args.b) c.in-Sub.is)
