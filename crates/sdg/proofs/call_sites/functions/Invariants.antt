use Rattle.std.proofs.Common.{◌≡◌, ◌++◌, take}
use Rattle.sdg.specs.CallSites.{sites_from}
use Rattle.sdg.proofs.call_sites.functions.Given as goal

abbrev pub invariant-loop-f : goal.invariant-loop-f
invariant-loop-f l = l.found.items ≡ l.initial.found.items ++ sites_from 0 (take l.f l.list)
