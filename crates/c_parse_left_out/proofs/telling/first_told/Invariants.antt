use Rattle.std.proofs.Common.{◌≡◌, ◌≤◌, reverse, take, drop, []}
use Rattle.c_language.specs.LeftOut as grammar
use Rattle.c_parse_left_out.specs.Telling as spec
use Rattle.c_parse_left_out.proofs.telling.first_told.Given as goal

abbrev pub invariant-loop-at : goal.invariant-loop-at
invariant-loop-at l =
    (spec.first_told 0 [] l.fn.tokens ≡ spec.first_told l.at (reverse (take l.at l.fn.tokens)) (drop l.at l.fn.tokens))
    × (l.braces ≡ grammar.open_braces (reverse (take l.at l.fn.tokens)))
    × (l.braces ≤ l.at)
    × (l.after ≡ grammar.behind_semicolon (drop l.at l.fn.tokens))
