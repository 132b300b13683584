use Rattle.c_print_laws.proofs.ReadAgain.{layout_is_read_again}
use Rattle.c_print_laws.proofs.layout_is_read_again.Goals as goal

pub returns : goal.returns
returns c = λ p h. layout_is_read_again p h
