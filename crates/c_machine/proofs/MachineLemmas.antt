-- What a machine's calls keep of it, by the calls of the code.
use Rattle.std.proofs.Common.{◌≡◌, ℕ, ◌+◌, List, false, sym, ap, ◌∙◌, subst, arith}
use Rattle.c_meaning.specs.declared.event.Event.{Event}
use Rattle.c_meaning.specs.Meaning.{meaning}
use Rattle.c_language.specs.Words.{Bytes}
use Rattle.c_machine.specs.declared.runs.Run.{Run}
use Rattle.c_machine.specs.declared.runs.Turn.{Turn}
use Rattle.c_machine.specs.declared.runs.Turn.TheVariants as turn
use Rattle.c_machine.specs.Progress.{Progress, meant_with, turn_of, IsRight}
use Rattle.c_machine.proofs.ProgressLemmas.{right_over}

-- acts of a run that is over
pub skipped : (m old : Progress) (n sum : ℕ) (t : Turn) (r : Run) (events : List Event) (output : Bytes) → m ≡ old → (turn_of (meant_with old 0) ≡ turn.Going → ⊥) → old.failed ≡ false → sum ≡ m.acts + n
    → IsRight m events output t r → IsRight (record m { acts = sum }) events output t r
skipped m old n sum t r events output same over ok is h =
    let none : m.acts + 0 ≡ m.acts = omega arith in
    let gone : turn_of (meaning m.acts m.program m.input) ≡ turn.Going → ⊥ =
    λ e. over (ap (λ (q : Progress). turn_of (meant_with q 0)) (sym same) ∙ ap (λ (k : ℕ). turn_of (meaning k m.program m.input)) none ∙ e) in
    subst (λ (k : ℕ). IsRight (record m { acts = k }) events output t r) (sym is)
    (right_over m n t r events output gone (ap (λ (q : Progress). q.failed) same ∙ ok) h)

-- ---- a run that is over doesn't go on

pub not_ended : turn.Ended ≡ turn.Going → ⊥
not_ended e = cc

pub not_undefined : (i : ℕ) → turn.Undefined i ≡ turn.Going → ⊥
not_undefined i e = cc
