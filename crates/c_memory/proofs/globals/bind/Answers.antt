use Rattle.std.proofs.Common.{ℕ, ◌<◌, length, Option, Some, ap, ◌∙◌, arith}
use Rattle.c_meaning.specs.Values.{bound}
use Rattle.c_memory.specs.Scenes.{frame_of}
use Rattle.c_memory.proofs.GlobalLemmas.{frame_push, frame_set}
use Rattle.c_memory.proofs.globals.bind.Goals as goal

pub loop-frame-preserved : goal.loop-frame-preserved
loop-frame-preserved c = ap frame_of c.in_ok-push.ensures.items ∙ frame_push c.loop-frame.frame.items ∙ c.loop-frame.invariant

pub returns : goal.returns
returns c =
    let test = c.loop-frame-test.false in
    let within : c.args.x < length c.loop-frame.frame.items = omega (arith, test, c.len.ensures, c.loop-frame.frame.ok.0) in
    frame_set c.loop-frame.frame.items c.args.x c.args.block within ∙ ap (λ (f : ℕ → Option ℕ). bound f c.args.x (Some c.args.block)) c.loop-frame.invariant
