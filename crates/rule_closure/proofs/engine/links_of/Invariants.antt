use Rattle.std.proofs.Common.{◌≡◌, ◌++◌, take, map}
use Rattle.rule_closure.specs.Links.{from_first, from_second}
use Rattle.rule_closure.proofs.engine.links_of.Given as goal

abbrev pub invariant-loop-rule : goal.invariant-loop-rule
invariant-loop-rule l = l.links.items ≡ map from_first l.rules ++ map from_second (take l.rule-index l.rules)
