use Rattle.std.proofs.Common.{◌∙◌}
use Rattle.c_arith.proofs.Machine.{product-is}
use Rattle.c_arith.proofs.operators.product.Goals as goal

pub returns-clause-value : goal.returns-clause-value
returns-clause-value c = c.arithmetic.ensures.value ∙ product-is c.args.t c.args.a c.args.b c.requires.left c.requires.right
