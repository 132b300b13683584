use Rattle.std.proofs.Common.{ap, ◌∙◌}
use Rattle.std.specs.Prelude.{drop, if◌then◌else◌}
use Rattle.c_meaning.specs.Acts.{stored}
use Rattle.c_meaning.specs.Memory.{Memory}
use Rattle.c_meaning.specs.Values.{leave_block}
use Rattle.std.specs.Option.{option_or}
use Rattle.c_acts.specs.Makings.{stores_in}
use Rattle.c_machine.proofs.StateLemmas.{applied_at}
use Rattle.c_machine.proofs.states.State.apply.Goals as goal

pub returns : goal.returns
returns c = λ i m s is h.
    let change = c.args.change in
    let begun = c.in_ok-begin.ensures in
    let freed = c.free.ensures in
    let wrote = c.in_ok-store.ensures in
    let gave = c.answer.ensures in
    applied_at i m change c.args.self.now _ s is h
    (gave.memory ∙ wrote.memory ∙ ap (λ (n : Memory). stored (stores_in change.stores) n) (freed.memory ∙ ap (leave_block change.freed) begun.memory))
    (gave.returned ∙ ap (option_or change.returned) (wrote.same.returned ∙ freed.same.returned ∙ begun.same.returned))
    (c.left_behind-self.ensures ∙ ap (λ u. drop (if change.takes then 1 else 0) u.now) (gave.unread ∙ wrote.same.unread ∙ freed.same.unread ∙ begun.same.unread))
    (gave.frame ∙ wrote.same.frame ∙ freed.same.frame ∙ begun.same.frame)
