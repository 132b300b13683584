use Rattle.c_lex.proofs.ScanLaws.{lexed, gives}
use Rattle.c_lex.proofs.lexer.lex.Goals as goal

pub returns-clause-right : goal.returns-clause-right
returns-clause-right c = lexed _ _ c.scan.ensures

pub returns-clause-found : goal.returns-clause-found
returns-clause-found c = gives _ _ c.scan.ensures
