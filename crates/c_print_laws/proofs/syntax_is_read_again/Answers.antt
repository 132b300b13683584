use Rattle.c_print_laws.proofs.SyntaxLayout.{syntax_is_read_again}
use Rattle.c_print_laws.proofs.syntax_is_read_again.Goals as goal

pub returns : goal.returns
returns c = λ raw h short. syntax_is_read_again raw h short
