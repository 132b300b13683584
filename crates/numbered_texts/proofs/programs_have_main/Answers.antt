use Rattle.numbered_texts.proofs.HavingMain.{has_main}
use Rattle.numbered_texts.proofs.programs_have_main.Goals as goal

pub returns : goal.returns
returns c = has_main
