use Rattle.text_syntax.proofs.Items.{text_is_syntax}
use Rattle.text_syntax.proofs.text_is_syntax.Goals as goal

pub returns : goal.returns
returns c = λ raw tree. text_is_syntax raw tree
