use Rattle.std.proofs.Common.{sym}
use Rattle.c_types_base.proofs.LiteralLemmas.{untyped}
use Rattle.c_types_base.proofs.literal.integer_literal.Goals as goal

pub returns-in_err-value-clause-kind : goal.returns-in_err-value-clause-kind
returns-in_err-value-clause-kind c = rw (c.from_residual.ensures) (sym (untyped c.args.text.now c.in_err-value.ensures.too_large))
