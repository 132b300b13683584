use Rattle.std.proofs.Common.{◌≡◌, ◌↔◌, ◌<◌, ◌⊎◌, ℕ, List, true, length, get_or, take, Contains, flat_map, sym, ap, ◌∙◌, subst, arith, rules}
use Rattle.std.specs.Prelude.{vec_len}
use Rattle.std.proofs.lemmas.List.{get_or_default, get_or_read, take_more, take_all}
use Rattle.std.proofs.lemmas.Option.{slice_get_within}
use Rattle.bit_rows.specs.Sets.{has}
use Rattle.dep_model.specs.declared.edge.Edge.{Edge}
use Rattle.dep_model.specs.declared.edge.Label.TheVariants.{Control}
use Rattle.matched_paths.specs.EdgeGroups.{group_at, calling}
use Rattle.matched_paths.proofs.GroupLaws.{calling_is}
use Rattle.matched_paths.proofs.ReachLaws.{edge_below}
use Rattle.summary_edges.specs.Agendas.{IsAgenda}
use Rattle.summary_edges.proofs.AgendaLaws.{AreCallersAdded, callers_begin, callers_go, callers_end, function_read}
use Rattle.summary_edges.proofs.PartLaws.{first_inside}
use Rattle.summary_edges.proofs.agenda.Agenda.add_callers.Goals as goal
use Rattle.summary_edges.proofs.agenda.Agenda.add_callers.Goals.{In-loop-call}

abbrev none : Edge
none = record { from = 0; to = 0; label = Control }

-- the edge that is read begins at a vertex
below : (c : In-loop-call) → c.loop-call.call-index < length c.of-callers.result.now → (get_or c.of-callers.result.now c.loop-call.call-index none).from < length c.args.g.now.vertices
below c low =
    let g = c.args.g.now in
    let is = c.requires.part in
    let f = is.whole.function in
    let first = c.args.part.range.first in
    let es = c.of-callers.result.now in
    let n = c.loop-call.call-index in
    let e = get_or es n none in
    let own = function_read c.as_slice.result.now g.vertices first _ f c.as_slice.ensures ((is.whole.all first).1 (first_inside g c.args.part is)) in
    let calls : es ≡ flat_map (calling g.vertices f) g.edges = c.of-callers.ensures ∙ ap (group_at c.args.calls.now) own ∙ c.requires.calls f in
    let among : Contains es e = (n, low, get_or_default es n e none low) in
    (edge_below g c.requires.shaped e (calling_is g.vertices g.edges f e (subst (λ (xs : List Edge). Contains xs e) calls among)).0).0

pub loop-call-init : goal.loop-call-init
loop-call-init c = callers_begin c.args.parts.now c.args.self.now c.requires.agenda

pub index-requires : goal.index-requires
index-requires c =
    let low = below (goal.at.index-requires c).In-loop-call c.loop-call-test.true in
    let long = c.requires.parts.long in
    let size : vec_len c.args.parts.now.of_vertex ≡ length c.args.parts.now.of_vertex.items = search rules in
    omega (arith, low, long, size)

pub add-requires-clause-agenda : goal.add-requires-clause-agenda
add-requires-clause-agenda c =
    let a = c.loop-call.invariant.agenda in
    subst (λ n. IsAgenda n c.loop-call.self) (sym a.long) a

pub add-requires-clause-inside : goal.add-requires-clause-inside
add-requires-clause-inside c =
    let parts = c.args.parts.now in
    let e = get_or c.of-callers.result.now c.loop-call.call-index none in
    let low = below (goal.at.add-requires-clause-inside c).In-loop-call c.loop-call-test.true in
    let long = c.requires.parts.long in
    let within : e.from < length parts.of_vertex.items = omega (arith, low, long) in
    let read = get_or_read parts.of_vertex.items e.from _ within c.index.ensures 0 in
    let found = c.requires.parts.found e.from low in
    let place = slice_get_within parts.list.items _ found.part found.at in
    let marks = c.loop-call.invariant.agenda.long in
    omega (arith, read, place, marks)

pub loop-call-preserved : goal.loop-call-preserved
loop-call-preserved c =
    let parts = c.args.parts.now in
    let start = c.args.self.now in
    let now = c.loop-call.self in
    let new = c.add.new.self in
    let es = c.of-callers.result.now in
    let n = c.loop-call.call-index in
    let e = get_or es n none in
    let h = c.loop-call.invariant in
    let low = below (goal.at.loop-call-preserved c).In-loop-call c.loop-call-test.true in
    let long = c.requires.parts.long in
    let within : e.from < length parts.of_vertex.items = omega (arith, low, long) in
    let read = get_or_read parts.of_vertex.items e.from _ within c.index.ensures 0 in
    let agenda = subst (λ k. IsAgenda k new) h.agenda.long c.in_ok-add.ensures.agenda in
    let added = subst (λ (k : ℕ). (p : ℕ) → (has new.marks.items p ≡ true) ↔ ((has now.marks.items p ≡ true) ⊎ (p ≡ k))) read c.in_ok-add.ensures.added in
    subst (λ (seen : List Edge). AreCallersAdded parts start seen new) (sym (take_more es n none c.loop-call-test.true)) (callers_go parts start now new (take n es) e h agenda added)

pub returns-clause-agenda : goal.returns-clause-agenda
returns-clause-agenda c = c.loop-call.invariant.agenda

pub returns-clause-added : goal.returns-clause-added
returns-clause-added c =
    let g = c.args.g.now in
    let is = c.requires.part in
    let f = is.whole.function in
    let first = c.args.part.range.first in
    let es = c.of-callers.result.now in
    let n = c.loop-call.call-index in
    let ended = c.loop-call-test.false in
    let own = function_read c.as_slice.result.now g.vertices first _ f c.as_slice.ensures ((is.whole.all first).1 (first_inside g c.args.part is)) in
    let calls : es ≡ flat_map (calling g.vertices f) g.edges = c.of-callers.ensures ∙ ap (group_at c.args.calls.now) own ∙ c.requires.calls f in
    let seen = subst (λ (xs : List Edge). AreCallersAdded c.args.parts.now c.args.self.now xs c.loop-call.self) (take_all n es (omega (arith, ended))) c.loop-call.invariant in
    callers_end g c.requires.shaped c.args.parts.now c.requires.parts c.args.part is es calls c.args.self.now c.loop-call.self seen
