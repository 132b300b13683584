use Rattle.std.proofs.Common.{◌≡◌, map, take}
use Rattle.c_meaning.specs.Values.{shown_of}
use Rattle.c_acts.proofs.acts.shown_all.Given as goal

abbrev pub invariant-loop-v : goal.invariant-loop-v
invariant-loop-v l = l.shown ≡ map shown_of (take l.v-index l.list)
