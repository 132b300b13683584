use Rattle.slice_engine.proofs.FirstMembers.{AreFirstMembers}
use Rattle.slice_engine.proofs.graph.numbers_in.Given as goal

abbrev pub invariant-loop-v : goal.invariant-loop-v
invariant-loop-v l = AreFirstMembers l.v l.set l.found.items
