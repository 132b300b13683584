use Rattle.c_print_laws.proofs.StatementStarts as starts
use Rattle.c_print_laws.proofs.statements_start.Goals as goal

pub returns : goal.returns
returns c = starts.statements_start
