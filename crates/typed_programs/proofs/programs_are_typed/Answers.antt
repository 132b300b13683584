use Rattle.typed_programs.proofs.TypedPrograms as lemmas
use Rattle.typed_programs.proofs.programs_are_typed.Goals as goal

pub returns : goal.returns
returns c = lemmas.programs_typed
