use Rattle.typed_programs.proofs.TreeTypes as lemmas
use Rattle.typed_programs.proofs.operands_have_types.Goals as goal

pub returns : goal.returns
returns c = lemmas.type_is
