use Rattle.std.proofs.Common.{◌≡◌, ◌∙◌, List, get_or, sym, ap, subst}
use Rattle.std.proofs.lemmas.Option.{get_or_from_slice_get}
use Rattle.dep_model.specs.declared.edge.Edge.{Edge}
use Rattle.dep_model.specs.declared.vertex.Vertex.{Vertex}
use Rattle.dep_model.specs.declared.vertex.VertexKind.TheVariants.{Entry}
use Rattle.matched_paths.specs.EdgeGroups.{group_at}
use Rattle.matched_paths.specs.declared.vertex_range.VertexRange.{VertexRange}
use Rattle.matched_paths.specs.VertexRanges.{IsInRange}
use Rattle.forward_chop.specs.Fields.{AsksFrom}
use Rattle.forward_chop.specs.Pairs.{HasAsked}
use Rattle.forward_chop.proofs.RoundLaws.{part_stays, taken_gone, visit_gone}
use Rattle.forward_chop.proofs.rounds.visit.Goals as goal

abbrev none : Vertex
none = record { function = 0; kind = Entry }

pub returns-then-not-take-clause-gone : goal.returns-then-not-take-clause-gone
returns-then-not-take-clause-gone c =
    taken_gone c.args.g.now.edges c.args.wanted.now c.take.new.self c.args.into.now c.args.way_in c.take.ensures.taken (sym c.take.ensures.was ∙ c.if-not-take.true) c.requires.open_.done

pub returns-clause-gone : goal.returns-clause-gone
returns-clause-gone c =
    let g = c.args.g.now in
    let x = c.args.way_in in
    let starts = c.args.index.now.starts in
    let exits = c.args.index.now.exits in
    let new = c.search.new.self in
    let changed = c.search.ensures.changed in
    let searched = c.search.ensures.searched in
    let part = part_stays g c.args.part.now new changed searched.fitted c.requires.part in
    let here = subst (λ (r : VertexRange). IsInRange r x) (sym changed.range_same) c.requires.here in
    let i = (part.whole.all x).1 here in
    let read : (get_or c.as_slice.result.now x none).function ≡ part.whole.function =
    ap (λ (vs : List Vertex). (get_or vs x none).function) c.as_slice.ensures ∙ ap (λ (v : Vertex). v.function) (get_or_from_slice_get g.vertices x i.vertex none i.at) ∙ i.in_function in
    let edges : c.of.result.now ≡ group_at starts part.whole.function = c.of.ensures ∙ ap (group_at starts) read in
    let asked = subst (λ (es : List Edge). HasAsked (AsksFrom new 0 es exits) c.take.new.self c.ask.new.wanted c.ask.result) edges c.ask.ensures in
    visit_gone g starts exits c.requires.index new part x here c.take.new.self searched c.args.wanted.now c.ask.new.wanted c.args.into.now c.collect.new.into c.ask.result c.take.ensures.taken c.collect.ensures.size
    c.collect.ensures.exact asked c.requires.open_.done c.requires.open_.covered
