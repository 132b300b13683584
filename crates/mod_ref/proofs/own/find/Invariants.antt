use Rattle.mod_ref.specs.Own.{IsOwn}
use Rattle.mod_ref.proofs.own.find.Given as goal

abbrev pub invariant-loop-f : goal.invariant-loop-f
invariant-loop-f l = IsOwn l.p l.t l.f l.own
