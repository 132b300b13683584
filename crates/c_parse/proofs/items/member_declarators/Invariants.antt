use Rattle.std.proofs.Common.{◌≡◌, ◌-◌, [], length, codes}
use Rattle.c_parse_simple.specs.SimpleReading.{separated}
use Rattle.c_parse.specs.ItemReading.{member_of}
use Rattle.c_parse.proofs.items.member_declarators.Given as goal

abbrev pub invariant-loop-turn : goal.invariant-loop-turn
invariant-loop-turn l = separated (codes ";") (member_of l.depth l.line l.base) (length l.fn.tokens) [] l.fn.tokens ≡ separated (codes ";") (member_of l.depth l.line l.base) (l.turns - l._turn) l.found l.tokens
