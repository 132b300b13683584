use Rattle.std.proofs.Common.{◌≡◌, ◌≤◌, ◌-◌, drop, length}
use Rattle.c_language.specs.LeftOut as grammar
use Rattle.c_parse_left_out.proofs.around.owes_no_colon.Given as goal

abbrev pub invariant-loop-turn : goal.invariant-loop-turn
invariant-loop-turn l = (l.owed ≡ grammar.owed_colons (drop (length l.fn.before - l.turn) l.fn.before)) × (l.owed ≤ l.turn)
