use Rattle.c_lex.proofs.TokenLaws.{longest}
use Rattle.c_lex.proofs.laws.tokens_are_longest.Goals as goal

pub returns : goal.returns
returns c = λ kind text rest other back h form same. longest back h form same
