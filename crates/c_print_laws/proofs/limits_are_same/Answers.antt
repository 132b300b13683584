use Rattle.c_print_laws.proofs.ReadAgain.{lengths_same, cells_same}
use Rattle.c_print_laws.proofs.limits_are_same.Goals as goal

pub returns : goal.returns
returns c = λ p q same. (lengths_same p q same, cells_same p q same)
