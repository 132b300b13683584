use Rattle.c_print_laws.proofs.ReadAgain.{commented_is_read_again}
use Rattle.c_print_laws.proofs.commented_is_read_again.Goals as goal

pub returns : goal.returns
returns c = λ inside p plain calm h. commented_is_read_again inside p plain calm h
