use Rattle.std.proofs.Common.{arith}
use Rattle.c_print.proofs.LayoutLength.{few_lines}
use Rattle.c_print.proofs.lines.layouts_have_few_lines.Goals as goal

pub returns : goal.returns
returns c = λ p short. omega (arith, few_lines p, short)
