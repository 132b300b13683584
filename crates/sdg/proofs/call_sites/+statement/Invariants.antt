use Rattle.std.proofs.Common.{◌≡◌, ◌++◌, take}
use Rattle.dep_model.specs.Doings.{body_doings}
use Rattle.sdg.specs.CallSites.{sites_in}
use Rattle.sdg.specs.CallWalk.{arms_doings}
use Rattle.sdg.proofs.call_sites.+statement.Given as goal

abbrev pub invariant-arms-loop-child : goal.invariant-arms-loop-child
invariant-arms-loop-child l =
    l.found.items ≡ l.initial.found.items ++ sites_in l.f (arms_doings (take l.child-index l.list))

abbrev pub invariant-statements-loop-child : goal.invariant-statements-loop-child
invariant-statements-loop-child l =
    l.found.items ≡ l.initial.found.items ++ sites_in l.f (body_doings (take l.child-index l.list))
