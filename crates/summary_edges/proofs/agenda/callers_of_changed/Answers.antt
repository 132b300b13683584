use Rattle.std.proofs.Common.{◌≡◌, ◌↔◌, ◌+◌, ◌<◌, ◌≤◌, ℕ, List, true, length, get_or, Some, slice_get, sym, ap, ◌∙◌, subst, arith, rules}
use Rattle.std.specs.Prelude.{vec_len}
use Rattle.std.proofs.lemmas.Bool.{false≢true}
use Rattle.std.proofs.lemmas.Option.{slice_get-get_or}
use Rattle.bit_rows.specs.Sets.{has}
use Rattle.summary_edges.specs.declared.agenda.Agenda.{Agenda}
use Rattle.summary_edges.specs.declared.function_parts.FunctionPart.{FunctionPart}
use Rattle.summary_edges.specs.Agendas.{IsAgenda}
use Rattle.summary_edges.proofs.AgendaLaws.{ChangedBelow, changed_none, changed_goes, changed_skips, changed_ends}
use Rattle.summary_edges.proofs.PartLaws.{words_in_turn, words_below}
use Rattle.summary_edges.proofs.agenda.callers_of_changed.Goals as goal
use Rattle.summary_edges.proofs.agenda.callers_of_changed.Goals.{In-loop-part, then-has_changed+in_ok-add_callers, else-has_changed}

abbrev none : FunctionPart
none = record { range = record { first = 0; last = 0 }; first_row = 0; last_row = 0; first_word = 0; last_word = 0 }

-- the part that is read, at its place
at_place : (c : In-loop-part) → c.loop-part.part-index < length c.deref-part-items.result.now → slice_get c.args.parts.now.list.items c.loop-part.part-index ≡ Some (get_or c.deref-part-items.result.now c.loop-part.part-index none)
at_place c low =
    let ps = c.deref-part-items.result.now in
    let n = c.loop-part.part-index in
    subst (λ (qs : List FunctionPart). slice_get qs n ≡ Some (get_or ps n none)) c.deref-part-items.ensures.value (slice_get-get_or ps n none low)

pub loop-part-init : goal.loop-part-init
loop-part-init c =
    let parts = c.args.parts.now in
    let size : vec_len parts.list ≡ length parts.list.items = search rules in (
      subst (λ (n : ℕ). IsAgenda n c.in_ok-agenda.agenda) (c.len.ensures ∙ size) c.in_ok-agenda.ensures.agenda,
      λ p. (
        λ up. absurd (false≢true (sym (c.in_ok-agenda.ensures.none p) ∙ up)),
        λ b. absurd (changed_none c.args.g.now c.requires.shaped parts c.requires.parts c.args.before.now c.args.after.now p b),
      ),
    )

pub has_changed-requires-clause-before : goal.has_changed-requires-clause-before
has_changed-requires-clause-before c =
    let g = c.args.g.now in
    let at = at_place (goal.at.has_changed-requires-clause-before c).In-loop-part c.loop-part-test.true in
    let below = words_below g c.requires.shaped.rows_are _ (c.requires.parts.each c.loop-part.part-index _ at) in
    let long = c.requires.before.long in
    omega (arith, below, long)

pub has_changed-requires-clause-after : goal.has_changed-requires-clause-after
has_changed-requires-clause-after c =
    let g = c.args.g.now in
    let at = at_place (goal.at.has_changed-requires-clause-after c).In-loop-part c.loop-part-test.true in
    let below = words_below g c.requires.shaped.rows_are _ (c.requires.parts.each c.loop-part.part-index _ at) in
    let long = c.requires.after.long in
    omega (arith, below, long)

pub has_changed-requires-clause-order : goal.has_changed-requires-clause-order
has_changed-requires-clause-order c =
    let at = at_place (goal.at.has_changed-requires-clause-order c).In-loop-part c.loop-part-test.true in
    words_in_turn c.args.g.now c.requires.shaped.rows_are _ (c.requires.parts.each c.loop-part.part-index _ at)

pub add_callers-requires-clause-part : goal.add_callers-requires-clause-part
add_callers-requires-clause-part c =
    c.requires.parts.each c.loop-part.part-index _ (at_place (goal.at.add_callers-requires-clause-part c).In-loop-part c.loop-part-test.true)

pub loop-part-preserved : goal.loop-part-preserved
loop-part-preserved c =
    let g = c.args.g.now in
    let parts = c.args.parts.now in
    let old = c.args.before.now in
    let new = c.args.after.now in
    let n = c.loop-part.part-index in
    let q = get_or c.deref-part-items.result.now n none in
    let now = c.loop-part.agenda in
    let h = c.loop-part.invariant in
    let at = at_place (goal.at.loop-part-preserved c).In-loop-part c.loop-part-test.true in
    let Seen : Agenda → Type 0 = λ (a : Agenda). IsAgenda (length parts.list.items) a × ((p : ℕ) → (has a.marks.items p ≡ true) ↔ ChangedBelow g parts old new (n + 1) p) in
    elim c.if-has_changed.branch [
      | then-has_changed+in_ok-add_callers w ↦
          let e = w.in_ok-add_callers.ensures in
          subst Seen (sym w.agenda-is)
          (e.agenda, changed_goes g c.requires.shaped parts c.requires.parts old new n q now w.add_callers.new.self at (c.has_changed.ensures.0 w.if-has_changed.true) h.1 e.added)
      | else-has_changed w ↦
          subst Seen (sym w.agenda-is)
          (h.0, changed_skips g c.requires.shaped parts c.requires.parts old new n q now at (λ d. false≢true (sym w.if-has_changed.false ∙ c.has_changed.ensures.1 d)) h.1)
    ]

pub returns-clause-exact : goal.returns-clause-exact
returns-clause-exact c = λ p.
    let parts = c.args.parts.now in
    let n = c.loop-part.part-index in
    let ended = c.loop-part-test.false in
    let long = ap (λ (ps : List FunctionPart). length ps) c.deref-part-items.ensures.value in
    let all : length parts.list.items ≤ n = omega (arith, ended, long) in
    let ends = changed_ends c.args.g.now c.requires.shaped parts c.requires.parts c.args.before.now c.args.after.now n all p in
    let h = c.loop-part.invariant.1 p in
    (λ up. ends.0 (h.0 up), λ d. h.1 (ends.1 d))
