use Rattle.std.proofs.Common.{◌≡◌, ℕ, ◌<◌, length, get_or, sym, ap, subst, ◌∙◌}
use Rattle.bit_rows.specs.Sets.{has}
use Rattle.run_text.specs.Lines.{event_lines, number_among, on_lines}
use Rattle.run_text.proofs.RunLemmas.{passes_on, events_told}
use Rattle.run_text.proofs.trace_text.Goals as goal

pub returns-in_err-finish-clause-fault : goal.returns-in_err-finish-clause-fault
returns-in_err-finish-clause-fault c =
    passes_on c.args.p.now c.args.input.now _ c.args.steps c.in_ok-machine.machine c.in_ok-machine.ensures c.in_err-finish.field-0.0 c.from_residual-in_err-finish.result c.from_residual-in_err-finish.ensures.1 c.in_err-finish.ensures.fault

pub returns-clause-ended : goal.returns-clause-ended
returns-clause-ended c =
    let tests = c.as_slice.result.now in
    let numbers = c.in_ok-numbers.numbers.items in
    let same : c.as_slice-2.result.now ≡ tests = c.as_slice-2.ensures.value ∙ sym c.as_slice.ensures.value in
    events_told c.args.p.now c.args.input.now tests c.args.steps c.in_ok-machine.machine _ c.in_ok-machine.ensures c.in_ok-finish.ensures.ended c.in_ok-finish.ensures.done
    (on_lines c.args.p.now c.args.lines.now)
    (λ (i : ℕ). ap (λ ts. has ts i) c.as_slice.ensures.value ∙ c.in_ok-watched.ensures i)
    numbers
    (subst (λ ts. (i : ℕ) → i < length ts → get_or numbers i 0 ≡ number_among (has ts) i) same c.in_ok-numbers.ensures)
    c.events.result.now _ c.events.ensures.all
    (c.in_ok-event_lines.ensures ∙ ap (λ ns. event_lines (λ i. get_or ns i 0) c.events.result.now) c.as_slice-3.ensures.value)
