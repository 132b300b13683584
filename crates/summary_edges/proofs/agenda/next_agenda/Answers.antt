use Rattle.std.proofs.Common.{ℕ, List, flat_map, sym, ap, ◌∙◌, subst}
use Rattle.dep_model.specs.declared.vertex.Vertex.{Vertex}
use Rattle.dep_model.specs.Facts.{AreFactWords}
use Rattle.matched_paths.specs.EdgeGroups.{calling}
use Rattle.summary_edges.specs.Agendas.{IsDue}
use Rattle.summary_edges.proofs.agenda.next_agenda.Goals as goal

pub later_agenda-requires-clause-before : goal.later_agenda-requires-clause-before
later_agenda-requires-clause-before c = subst (AreFactWords c.args.g.now) (sym c.as_slice-3.ensures) c.requires.before

pub later_agenda-requires-clause-after : goal.later_agenda-requires-clause-after
later_agenda-requires-clause-after c = subst (AreFactWords c.args.g.now) (sym c.as_slice-4.ensures) c.requires.after

pub later_agenda-requires-clause-calls : goal.later_agenda-requires-clause-calls
later_agenda-requires-clause-calls c = λ h.
    c.in_ok-calls.ensures h ∙ ap (flat_map (calling c.as_slice.result.now h)) c.as_slice-2.ensures ∙ ap (λ (xs : List Vertex). flat_map (calling xs h) c.args.g.now.edges) c.as_slice.ensures

pub returns-clause-ascending : goal.returns-clause-ascending
returns-clause-ascending c = c.in_ok-agenda.ensures.agenda.ascending

pub returns-clause-exact : goal.returns-clause-exact
returns-clause-exact c = λ (f : ℕ).
    let g = c.args.g.now in
    let exact = c.in_ok-agenda.ensures.agenda.exact f in (
      λ m. subst (λ (ws : List ℕ). IsDue g c.args.before.now.words ws f) c.as_slice-4.ensures (subst (λ (ws : List ℕ). IsDue g ws c.as_slice-4.result.now f) c.as_slice-3.ensures (exact.0 m)),
      λ d. exact.1 (subst (λ (ws : List ℕ). IsDue g ws c.as_slice-4.result.now f) (sym c.as_slice-3.ensures) (subst (λ (ws : List ℕ). IsDue g c.args.before.now.words ws f) (sym c.as_slice-4.ensures) d)),
    )
