use Rattle.std.proofs.Common.{◌≡◌, true, sym, ◌∙◌, ◌&&◌, ◌||◌}
use Rattle.c_language.specs.Constants.{is_u, is_l}
use Rattle.c_types_base.proofs.literal.with_two.Goals as goal

pub returns-then-is_both-clause-value : goal.returns-then-is_both-clause-value
returns-then-is_both-clause-value c =
    let taken : ((is_u c.args.a && is_l c.args.b) || (is_l c.args.a && is_u c.args.b)) ≡ true = sym c.is_both.ensures ∙ c.if-is_both.true in
    rw taken (c.unsigned_long_type.ensures.value c.args.is_decimal)
