use Rattle.std.proofs.Common.{◌≡◌, ◌-◌, [], length, codes}
use Rattle.c_parse_simple.specs.SimpleReading.{separated, declared}
use Rattle.c_parse_simple.proofs.simple.declarators.Given as goal

abbrev pub invariant-loop-turn : goal.invariant-loop-turn
invariant-loop-turn l = separated (codes ";") (declared l.depth l.line l.base) (length l.fn.tokens) [] l.fn.tokens ≡ separated (codes ";") (declared l.depth l.line l.base) (l.turns - l._turn) l.found l.tokens
