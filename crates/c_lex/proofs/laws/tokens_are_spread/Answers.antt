use Rattle.c_lex.proofs.TokenLaws.{spread}
use Rattle.c_lex.proofs.laws.tokens_are_spread.Goals as goal

pub returns : goal.returns
returns c = λ text ts h. spread text ts h
