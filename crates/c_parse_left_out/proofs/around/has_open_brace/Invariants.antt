use Rattle.std.proofs.Common.{◌≡◌, ◌≤◌, ◌-◌, drop, length}
use Rattle.c_language.specs.LeftOut as grammar
use Rattle.c_parse_left_out.proofs.around.has_open_brace.Given as goal

abbrev pub invariant-loop-turn : goal.invariant-loop-turn
invariant-loop-turn l = (l.braces ≡ grammar.open_braces (drop (length l.fn.before - l.turn) l.fn.before)) × (l.braces ≤ l.turn)
