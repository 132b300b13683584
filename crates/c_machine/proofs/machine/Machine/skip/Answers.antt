use Rattle.std.proofs.Common.{◌≡◌, ◌+◌, arith}
use Rattle.c_machine.proofs.MachineLemmas.{skipped}
use Rattle.c_machine.proofs.machine.Machine.skip.Goals as goal

pub invariant_of-self : goal.invariant_of-self
invariant_of-self c =
    let sum : c.in-Some.sum ≡ c.self.inside.acts + c.args.acts = omega (arith, c.in-Some.ensures) in
    skipped _ c.args.self.now c.args.acts c.in-Some.sum c.self.inside.turn c.self.inside.run c.self.inside.events.items c.self.inside.output.items c.self.view_is c.requires.over c.requires.sound sum
    c.self.invariant
