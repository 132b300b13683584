use Rattle.std.proofs.Common.{◌≡◌, drop}
use Rattle.c_language.specs.LeftOut as grammar
use Rattle.c_parse_left_out.proofs.telling.behind_semicolon.Given as goal

abbrev pub invariant-loop-at : goal.invariant-loop-at
invariant-loop-at l = grammar.behind_semicolon l.fn.tokens ≡ grammar.behind_semicolon (drop l.at l.fn.tokens)
