use Rattle.std.proofs.Common.{take}
use Rattle.forward_chop.specs.Outs.{HaveWidened, PairsFrom}
use Rattle.forward_chop.proofs.outs.add_edges.Given as goal

abbrev pub invariant-loop-edge : goal.invariant-loop-edge
invariant-loop-edge l = HaveWidened (PairsFrom (take l.edge-index l.edges) l.exits) l.initial.outs l.outs
