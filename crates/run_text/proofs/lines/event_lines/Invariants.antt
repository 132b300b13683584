use Rattle.std.proofs.Common.{◌≡◌, ◌++◌, drop, get_or}
use Rattle.run_text.specs.Lines as spec
use Rattle.run_text.proofs.lines.event_lines.Given as goal

abbrev pub invariant-loop-event : goal.invariant-loop-event
invariant-loop-event l =
    l.text ++ spec.event_lines (λ i. get_or l.numbers i 0) (drop l.event-index l.events) ≡ spec.event_lines (λ i. get_or l.numbers i 0) l.events
