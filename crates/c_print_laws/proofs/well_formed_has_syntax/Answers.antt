use Rattle.c_print_laws.proofs.SyntaxTrees.{has_syntax, syntax_well_formed}
use Rattle.c_print_laws.proofs.well_formed_has_syntax.Goals as goal

pub returns : goal.returns
returns c = λ p. (has_syntax p, syntax_well_formed p)
