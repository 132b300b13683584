use Rattle.c_print_laws.proofs.LineLess.{layouts_same}
use Rattle.c_print_laws.proofs.layout_has_no_lines.Goals as goal

pub returns : goal.returns
returns c = λ p q same. layouts_same p q same
