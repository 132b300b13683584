use Rattle.std.proofs.Common.{Option, Some, None, subst}
use Rattle.c_machine.specs.Runs.{GoneOn}
use Rattle.c_machine.specs.declared.runs.Turn.{Turn}
use Rattle.c_machine.proofs.AheadLemmas.{leads_same}
use Rattle.c_machine.proofs.PointLemmas.{gone_then}
use Rattle.c_machine.proofs.runs.Run.settle.Goals as goal

pub pieces-init : goal.pieces-init
pieces-init c =
    λ p before x h. (x, (leads_same p x, h))

pub pieces-preserved : goal.pieces-preserved
pieces-preserved c =
    λ p before x h.
    let g = c.pieces.invariant p before x h in
    gone_then p before None c.go_on.new.self x g.0 g.1.0 (subst (λ (o : Option Turn). GoneOn p before o c.go_on.new.self g.0) c.in-None.is (c.in_ok-turn.ensures.stands p before g.0 g.1.1))

pub returns-in-Some : goal.returns-in-Some
returns-in-Some c =
    λ p before x h.
    let g = c.pieces.invariant p before x h in
    gone_then p before (Some c.in-Some.turn) c.go_on.new.self x g.0 g.1.0 (subst (λ (o : Option Turn). GoneOn p before o c.go_on.new.self g.0) c.in-Some.is (c.in_ok-turn.ensures.stands p before g.0 g.1.1))
