use Rattle.std.proofs.Common.{◌≢◌, ◌∙◌, sym, ap, pos}
use Rattle.std.proofs.lemmas.Int.{quot_is}
use Rattle.std.specs.Int.{w128, cast_unsigned}
use Rattle.c_arith.specs.Operators.{representable}
use Rattle.c_arith.proofs.Machine.{SFits-int_div, quotient-nonzero}
use Rattle.c_arith.proofs.operators.quotient.Goals as goal

pub returns-else-b-eq0-clause-value : goal.returns-else-b-eq0-clause-value
returns-else-b-eq0-clause-value c =
    let nonzero : c.args.b ≢ pos 0 = λ z. c.if-b-eq0.false (ap (cast_unsigned w128) z) in
    let exact = quot_is w128 c.args.a c.args.b c.ranges.a c.ranges.b (SFits-int_div c.args.t c.args.a c.args.b c.requires) in
    c.representable.ensures.value ∙ ap (representable c.args.t) exact ∙ sym (quotient-nonzero c.args.t c.args.a c.args.b nonzero)
