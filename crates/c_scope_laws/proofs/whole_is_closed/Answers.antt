use Rattle.c_scope_laws.proofs.WholeIsClosed.{whole_closed}
use Rattle.c_scope_laws.proofs.whole_is_closed.Goals as goal

pub returns : goal.returns
returns c = λ raw. whole_closed raw
