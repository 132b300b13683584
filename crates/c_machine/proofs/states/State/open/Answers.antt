use Rattle.std.proofs.Common.{Some, refl, ap, ◌∙◌}
use Rattle.c_language.specs.TreeTypes.{type_of_variable}
use Rattle.c_meaning.specs.Values.{bound}
use Rattle.c_memory.specs.Scenes.{frame_of}
use Rattle.c_machine.proofs.StateLemmas.{opened_at}
use Rattle.c_machine.proofs.states.State.open.Goals as goal

pub returns-clause-opened : goal.returns-clause-opened
returns-clause-opened c = λ s h.
    let same = c.in_ok-block.ensures.same in
    opened_at c.args.program.now c.args.x c.in_ok-block.block (type_of_variable c.args.program.now c.args.x) c.args.self.now _ s h refl c.in_ok-block.ensures.number c.in_ok-block.ensures.memory
    (c.in_ok-bind.ensures ∙ ap (λ f. bound (frame_of f.items) c.args.x (Some c.in_ok-block.block)) same.frame) same.returned same.unread
