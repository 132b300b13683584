use Rattle.std.proofs.Common.{◌≡◌, ◌↔◌, ℕ, true, length}
use Rattle.bit_rows.specs.Sets.{has}
use Rattle.summary_edges.specs.Agendas.{IsAgenda}
use Rattle.summary_edges.proofs.AgendaLaws.{ChangedBelow}
use Rattle.summary_edges.proofs.agenda.callers_of_changed.Given as goal

abbrev pub invariant-loop-part : goal.invariant-loop-part
invariant-loop-part l = IsAgenda (length l.parts.list.items) l.agenda × ((p : ℕ) → (has l.agenda.marks.items p ≡ true) ↔ ChangedBelow l.g l.parts l.before l.after l.part-index p)
