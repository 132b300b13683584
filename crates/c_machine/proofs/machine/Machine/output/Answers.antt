use Rattle.std.proofs.Common.{sym, ap, ◌∙◌, subst}
use Rattle.c_machine.specs.Progress.{after_acts, output_at, BeginsWith}
use Rattle.c_machine.proofs.ProgressLemmas.{output_front}
use Rattle.c_machine.proofs.machine.Machine.output.Goals as goal

pub returns-clause-front : goal.returns-clause-front
returns-clause-front c = λ n.
    subst (λ front. BeginsWith front (output_at (after_acts c.args.self.now n))) (sym (c.as_slice.ensures.value ∙ c.self.invariant.output_is ∙ ap output_at c.self.view_is))
    (output_front c.args.self.now n)
