use Rattle.std.proofs.Common.{◌≡◌, ◌-◌, [], length, codes}
use Rattle.c_parse_simple.specs.SimpleReading.{separated, arg}
use Rattle.c_parse_simple.proofs.calls.some_args.Given as goal

abbrev pub invariant-loop-turn : goal.invariant-loop-turn
invariant-loop-turn l = separated (codes ")") (arg l.depth) (length l.fn.tokens) [] l.fn.tokens ≡ separated (codes ")") (arg l.depth) (l.turns - l._turn) l.found l.tokens
