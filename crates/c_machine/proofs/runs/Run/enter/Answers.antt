use Rattle.std.proofs.Common.{refl, ap, ◌∙◌}
use Rattle.c_machine.specs.Rests.{left_code}
use Rattle.c_machine.proofs.RunLemmas.{at_entered}
use Rattle.c_machine.proofs.runs.Run.enter.Goals as goal

pub returns : goal.returns
returns c =
    λ p before x h.
    at_entered p before c.args.self.now _ _ c.args.function x h refl refl refl
    (ap (λ l. left_code l.items) c.replace-left.ensures.after ∙ c.in_ok-body.ensures) c.in_ok-push.ensures.items refl
    (ap (λ f. f.items) c.replace-frame.ensures.after ∙ c.in_ok-fresh.ensures ∙ c.as_slice.ensures.value) c.replace-returned.ensures.after refl refl refl c.replace-left.ensures.value c.replace-frame.ensures.value c.replace-returned.ensures.value
