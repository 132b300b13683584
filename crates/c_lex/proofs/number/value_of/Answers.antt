use Rattle.std.proofs.Common.{◌+◌, ◌*◌, ◌∙◌, ap, arith}
use Rattle.c_lex.proofs.Loops.{digit_taken, digit_left, digit_bound}
use Rattle.c_lex.proofs.number.value_of.Goals as goal
use Rattle.c_lex.proofs.number.value_of.Goals.{then-value-le-ULONG_MOST, else-value-le-ULONG_MOST}

pub loop-digit-preserved : goal.loop-digit-preserved
loop-digit-preserved c = elim c.if-value-le-ULONG_MOST.branch [
  | then-value-le-ULONG_MOST w ↦ record {
    same = digit_taken c.args.base c.loop-digit.value c.args.digits.now c.loop-digit.digit-index _ c.loop-digit-test.true w.if-value-le-ULONG_MOST.true c.loop-digit.invariant.same
        (w.value-is ∙ ap (λ n. c.loop-digit.value * n + w.from-then-value-le-ULONG_MOST.result) w.from.ensures ∙ ap (λ n. c.loop-digit.value * c.args.base + n) (w.from-then-value-le-ULONG_MOST.ensures ∙ w.digit_value.ensures.value));
    bound = digit_bound c.loop-digit.value w.from.result w.from-then-value-le-ULONG_MOST.result _ w.if-value-le-ULONG_MOST.true (omega (arith, c.requires, w.from.ensures)) (omega (arith, w.from-then-value-le-ULONG_MOST.ensures, w.digit_value.ensures.bound)) w.value-is;
  }
  | else-value-le-ULONG_MOST w ↦ record {
    same = digit_left c.args.base c.loop-digit.value c.args.digits.now c.loop-digit.digit-index _ c.loop-digit-test.true w.if-value-le-ULONG_MOST.false c.loop-digit.invariant.same w.value-is;
    bound = omega (arith, w.value-is, c.loop-digit.invariant.bound);
  }
]
