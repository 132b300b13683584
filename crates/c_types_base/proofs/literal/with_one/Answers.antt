use Rattle.std.proofs.Common.{◌≡◌, true, sym, ◌∙◌}
use Rattle.c_language.specs.Constants.{is_u}
use Rattle.c_types_base.proofs.literal.with_one.Goals as goal

pub returns-then-is_u-clause-value : goal.returns-then-is_u-clause-value
returns-then-is_u-clause-value c =
    let taken : is_u c.args.a ≡ true = sym c.is_u.ensures ∙ c.if-is_u.true in
    rw taken (c.unsigned_type.ensures.value c.args.is_decimal)
