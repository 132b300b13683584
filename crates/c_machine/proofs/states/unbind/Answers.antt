use Rattle.std.proofs.Common.{arith}
use Rattle.c_memory.specs.Scenes.{frame_of}
use Rattle.c_machine.proofs.StateLemmas.{frame_unset, frame_past, bound_none}
use Rattle.c_machine.proofs.states.unbind.Goals as goal

pub returns-then-at-len : goal.returns-then-at-len
returns-then-at-len c =
    let test = c.if-at-len.true in
    frame_unset c.args.frame.now.items c.args.x (omega (arith, test, c.len.ensures, c.args.frame.now.ok.0))

pub returns-else-at-len : goal.returns-else-at-len
returns-else-at-len c =
    let test = c.if-at-len.false in
    bound_none (frame_of c.args.frame.now.items) c.args.x (frame_past c.args.frame.now.items c.args.x (omega (arith, test, c.len.ensures, c.args.frame.now.ok.0)))
