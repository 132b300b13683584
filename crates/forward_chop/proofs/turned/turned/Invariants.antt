use Rattle.std.proofs.Common.{◌≡◌, map, take}
use Rattle.forward_chop.specs.Turned.{turn}
use Rattle.forward_chop.proofs.turned.turned.Given as goal

abbrev pub invariant-loop-rule : goal.invariant-loop-rule
invariant-loop-rule l = l.turned.items ≡ map turn (take l.rule-index l.rules)
