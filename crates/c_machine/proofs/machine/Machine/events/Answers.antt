use Rattle.std.proofs.Common.{sym, ap, ◌∙◌, subst}
use Rattle.c_machine.specs.Progress.{after_acts, events_at, BeginsWith}
use Rattle.c_machine.proofs.ProgressLemmas.{events_front}
use Rattle.c_machine.proofs.machine.Machine.events.Goals as goal

pub returns-clause-front : goal.returns-clause-front
returns-clause-front c = λ n.
    subst (λ front. BeginsWith front (events_at (after_acts c.args.self.now n))) (sym (c.as_slice.ensures.value ∙ c.self.invariant.events_are ∙ ap events_at c.self.view_is))
    (events_front c.args.self.now n)
