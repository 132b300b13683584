use Rattle.std.proofs.Common.{List, refl, ap, ◌++◌, ◌∙◌}
use Rattle.std.specs.Option.{option_copied}
use Rattle.c_meaning.specs.declared.event.Event.{Event}
use Rattle.c_language.specs.Words.{Bytes}
use Rattle.c_machine.proofs.ProgressLemmas.{started}
use Rattle.c_machine.proofs.machine.Machine.begin.Goals as goal

pub invariant_of-result : goal.invariant_of-result
invariant_of-result c =
    let told = c.in_ok-move_to.ensures in
    let r = c.settle.new.self in
    started c.args.p.now (option_copied c.args.watched) c.args.input.now c.in_ok-turn.turn r _ _ _ (c.in_ok-turn.ensures _ _ _ c.in_ok-run.ensures) refl
    (told.events ∙ ap (λ (x : List Event). x ++ r.trace.events.items) c.new-events.ensures.items)
    (told.output ∙ ap (λ (x : Bytes). x ++ r.trace.output.items) c.new-output.ensures.items)
    told.watched told.none_told told.none_put
