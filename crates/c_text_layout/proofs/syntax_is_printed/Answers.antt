use Rattle.c_text_layout.proofs.ItemTexts.{has_tree_again}
use Rattle.c_text_layout.proofs.syntax_is_printed.Goals as goal

pub returns : goal.returns
returns c = λ raw h short. has_tree_again raw h short
