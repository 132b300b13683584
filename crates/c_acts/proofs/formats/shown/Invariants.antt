use Rattle.std.proofs.Common.{◌≡◌, take}
use Rattle.c_acts.specs.Formats.{shown_numbers}
use Rattle.c_acts.proofs.formats.shown.Given as goal

abbrev pub invariant-loop-number : goal.invariant-loop-number
invariant-loop-number l = l.all ≡ shown_numbers (take l.number-index l.numbers)
