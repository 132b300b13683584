use Rattle.std.proofs.Common.{[], refl, ap, ◌∙◌}
use Rattle.std.specs.Option.{option_copied}
use Rattle.c_memory.specs.Scenes.{frame_of}
use Rattle.c_machine.proofs.RunLemmas.{at_start}
use Rattle.c_machine.proofs.runs.Run.new.Goals as goal

pub returns : goal.returns
returns c =
    at_start c.args.program.now (option_copied c.args.watched) c.args.input.now _ refl (ap frame_of (c.in_ok-globals.ensures ∙ c.as_slice.ensures.value) ∙ c.in_ok-memory.ensures.frame [])
    c.main_of-function.ensures c.in_ok-left.ensures (c.in_ok-memory.ensures.frame c.args.input.now) refl (c.in_ok-memory.ensures.memory c.args.input.now) refl c.new-2.ensures.items refl c.new-3.ensures.items c.new-4.ensures.items
