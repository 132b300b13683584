use Rattle.std.proofs.Common.{◌^◌, get_or, ◌∙◌}
use Rattle.c_language.specs.Constants.{digit_value}
use Rattle.c_types_base.proofs.LiteralLemmas.{fold-large, none_where, product_large, sum_large}
use Rattle.c_types_base.proofs.literal.value_of.Goals as goal

pub returns-in_err-checked_mul-clause-too_large : goal.returns-in_err-checked_mul-clause-too_large
returns-in_err-checked_mul-clause-too_large c =
    none_where c.from_residual.result
    (rw c.loop-d.invariant (fold-large digit_value c.args.n c.loop-d.value c.loop-d.d-index c.args.digits.now c.requires c.loop-d-test.true
    (product_large c.loop-d.value (2 ^ 64) c.from.ensures c.in_err-checked_mul.ensures (digit_value (get_or c.args.digits.now c.loop-d.d-index 0)))))

pub returns-in_err-value-clause-too_large : goal.returns-in_err-value-clause-too_large
returns-in_err-value-clause-too_large c =
    none_where c.from_residual-in_err-value.result
    (rw c.loop-d.invariant (fold-large digit_value c.args.n c.loop-d.value c.loop-d.d-index c.args.digits.now c.requires c.loop-d-test.true
    (sum_large c.loop-d.value (2 ^ 64) c.in_ok-checked_mul.field-0 c.from-in-loop-d.result (digit_value (get_or c.args.digits.now c.loop-d.d-index 0))
    c.in_ok-checked_mul.ensures.1 c.from.ensures (c.from-in-loop-d.ensures ∙ c.digit_value.ensures.value) c.in_err-value.ensures)))
