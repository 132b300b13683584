use Rattle.std.proofs.Common.{◌≡◌, ◌-◌, [], ◌∷◌, length, codes}
use Rattle.c_parse_simple.specs.SimpleReading.{separated}
use Rattle.c_parse.specs.ItemReading.{global}
use Rattle.c_parse.proofs.items.more_globals.Given as goal

abbrev pub invariant-loop-turn : goal.invariant-loop-turn
invariant-loop-turn l = separated (codes ";") (global l.depth l.line l.is_static l.base) (length l.fn.tokens) (l.fn.first ∷ []) l.fn.tokens ≡ separated (codes ";") (global l.depth l.line l.is_static l.base) (l.turns - l._turn) l.found l.tokens
