use Rattle.c_print_laws.proofs.ReadAgain.{layout_of_text}
use Rattle.c_print_laws.proofs.layout_is_of_text.Goals as goal

pub returns : goal.returns
returns c = λ raw p syntax keeps is. layout_of_text raw p syntax keeps is
