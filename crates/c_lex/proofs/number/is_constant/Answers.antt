use Rattle.std.proofs.Common.{◌∙◌, ap}
use Rattle.std.specs.Prelude.{◌==◌}
use Rattle.c_lex.specs.Numbers.{capped, most}
use Rattle.c_lex.proofs.ConstantLaws.{number_empty, number_within, number_no_suffix}
use Rattle.c_lex.proofs.number.is_constant.Goals as goal

pub returns-then-len-eq0 : goal.returns-then-len-eq0
returns-then-len-eq0 c = number_empty c.args.text.now c.base-base.result c.digits_len-len.result c.unprefixed-body.result.now c.base-base.ensures.value c.unprefixed-body.ensures c.digits_len-len.ensures.value c.if-len-eq0.true

pub returns-in-Some : goal.returns-in-Some
returns-in-Some c =
    number_within c.args.text.now c.base-base.result c.digits_len-len.result c.unprefixed-body.result.now c.base-base.ensures.value c.unprefixed-body.ensures c.digits_len-len.ensures.value _ _ c.if-len-eq0.false
    (c.value_of.ensures ∙ ap (capped c.base-base.result 0) c.front.ensures.value)
    (c.in-Some.ensures ∙ ap (most (c.base-base.result == 10)) c.behind.ensures)

pub returns-in-None : goal.returns-in-None
returns-in-None c =
    number_no_suffix c.args.text.now c.base-base.result c.digits_len-len.result c.unprefixed-body.result.now c.base-base.ensures.value c.unprefixed-body.ensures c.digits_len-len.ensures.value c.if-len-eq0.false
    (c.in-None.ensures ∙ ap (most (c.base-base.result == 10)) c.behind.ensures)
