use Rattle.std.proofs.Common.{◌↔◌, ◌<◌, ℕ, All, List, Contains, length, map, sym, ap, ◌∙◌, subst}
use Rattle.summary_edges.specs.Agendas.{IsDue, number_at}
use Rattle.summary_edges.proofs.AgendaLaws.{places_inside, numbers_due}
use Rattle.summary_edges.proofs.GainLaws.{word_gains}
use Rattle.summary_edges.proofs.agenda.later_agenda.Goals as goal
use Rattle.summary_edges.proofs.agenda.later_agenda.Goals.{In_ok-numbers}

pub numbers_of-requires-clause-places : goal.numbers_of-requires-clause-places
numbers_of-requires-clause-places c =
    let n = length c.args.parts.now.list.items in
    subst (λ (ps : List ℕ). All (λ p. p < n) ps) (sym c.as_slice.ensures.value) (places_inside n c.in_ok-agenda.agenda c.in_ok-agenda.ensures.agenda)

-- numbers that are the same but for their order are those of the functions that are due
due : (c : In_ok-numbers) (new : List ℕ) → ((f : ℕ) → Contains new f ↔ Contains c.in_ok-numbers.numbers.items f) → (f : ℕ) → Contains new f ↔ IsDue c.args.g.now c.args.before.now c.args.after.now f
due c new same f =
    let g = c.args.g.now in
    let parts = c.args.parts.now in
    let is = c.in_ok-numbers.ensures ∙ ap (map (number_at g parts)) c.as_slice.ensures.value in
    let exact = numbers_due g c.requires.shaped parts c.requires.parts c.args.before.now c.args.after.now c.in_ok-agenda.agenda c.in_ok-agenda.ensures.agenda c.in_ok-agenda.ensures.exact f in (
      λ m. exact.0 (subst (λ (ns : List ℕ). Contains ns f) is ((same f).0 m)),
      λ d. (same f).1 (subst (λ (ns : List ℕ). Contains ns f) (sym is) (exact.1 d)),
    )

pub returns-clause-agenda : goal.returns-clause-agenda
returns-clause-agenda c = record {
  ascending = c.ascend.ensures.ascending;
  exact = due (goal.at.returns-clause-agenda c).In_ok-numbers c.ascend.new.numbers.items c.ascend.ensures.same;
}

pub returns-clause-gained : goal.returns-clause-gained
returns-clause-gained c = λ f m within.
    let is = (due (goal.at.returns-clause-gained c).In_ok-numbers c.ascend.new.numbers.items c.ascend.ensures.same f).0 m in
    let changed = is.changed in
    word_gains c.args.before.now c.args.after.now changed.word within (c.type_inv.before changed.word).fits (c.type_inv.after changed.word).fits changed.differs
