use Rattle.std.proofs.Common.{◌≡◌, take}
use Rattle.c_meaning.proofs.value.copied.Given as goal

abbrev pub invariant-loop-hop : goal.invariant-loop-hop
invariant-loop-hop l = l.all ≡ take l.hop-index l.path
