use Rattle.std.proofs.Common.{ap, ◌∙◌}
use Rattle.c_meaning.specs.Acts.{after}
use Rattle.c_meaning.specs.Meaning.{told}
use Rattle.c_acts.specs.Makings.{Seen}
use Rattle.c_acts.proofs.MadeLemmas.{change_of}
use Rattle.c_machine.proofs.RunLemmas.{at_with}
use Rattle.c_machine.proofs.TraceLemmas.{told_more}
use Rattle.c_machine.proofs.runs.Run.perform.Goals as goal

pub returns-clause-stands : goal.returns-clause-stands
returns-clause-stands c =
    λ p before x m e h.
    at_with p before c.args.self.now c.apply.new.self c.tell.new.self x (after c.args.id m x.state) (told c.args.id m x.trace)
    (c.in_ok-apply.ensures c.args.id m x.state (change_of c.args.made m e) h.state)
    (told_more before c.args.id c.args.made.values c.as_slice.result.now m c.args.self.now.trace c.tell.new.self x.trace (ap (λ (s : Seen). s.values) e) (c.as_slice.ensures.value ∙ ap (λ (s : Seen). s.output) e) c.in_ok-tell.ensures.events c.in_ok-tell.ensures.output c.in_ok-tell.ensures.watched h.trace) h
