use Rattle.std.proofs.Common.{◌≡◌, ◌<◌, ◌||◌, List, length, get_or, take, Contains, sym, ◌∙◌, subst, arith}
use Rattle.std.proofs.lemmas.List.{get_or_default, take_more, take_all}
use Rattle.dep_model.specs.declared.edge.Edge.{Edge}
use Rattle.dep_model.specs.declared.edge.Label.TheVariants.{Control}
use Rattle.matched_paths.specs.EdgeGroups.{group_at}
use Rattle.matched_paths.specs.VertexRanges.{IsInRange}
use Rattle.summary_edges.proofs.FillLaws.{IsSpreading, spread_begins, ends_here, spread_goes, spread_ends}
use Rattle.summary_edges.proofs.exit_rows.ExitRows.spread.Goals as goal
use Rattle.summary_edges.proofs.exit_rows.ExitRows.spread.Goals.{In-loop-edge}

abbrev none : Edge
none = record { from = 0; to = 0; label = Control }

-- the edge that is read leads to the vertex
read : (c : In-loop-edge) → c.loop-edge.edge-index < length c.of-edges.result.now → Contains (group_at c.args.index.now.ends c.args.vertex) (get_or c.of-edges.result.now c.loop-edge.edge-index none)
read c low = subst (λ es. Contains es (get_or c.of-edges.result.now c.loop-edge.edge-index none)) c.of-edges.ensures
    (c.loop-edge.edge-index, low, get_or_default c.of-edges.result.now c.loop-edge.edge-index (get_or c.of-edges.result.now c.loop-edge.edge-index none) none low)

pub loop-edge-init : goal.loop-edge-init
loop-edge-init c = spread_begins c.args.g.now c.args.index.now c.requires.index c.args.known.now c.args.range c.args.vertex c.args.self.now c.requires.table

pub follow-more-requires-clause-table : goal.follow-more-requires-clause-table
follow-more-requires-clause-table c = c.loop-edge.invariant.spread.shape.table

pub follow-more-requires-clause-room : goal.follow-more-requires-clause-room
follow-more-requires-clause-room c =
    let room = c.requires.room in
    let rows = c.loop-edge.invariant.spread.shape.rows_are in
    omega (arith, room, rows)

pub follow-more-requires-clause-edge : goal.follow-more-requires-clause-edge
follow-more-requires-clause-edge c =
    (ends_here c.args.g.now c.args.index.now c.requires.index c.args.known.now c.args.range c.args.vertex _ (read (goal.at.follow-more-requires-clause-edge c).In-loop-edge c.loop-edge-test.true)).0

pub follow-more-requires-clause-to_in : goal.follow-more-requires-clause-to_in
follow-more-requires-clause-to_in c =
    let at = (ends_here c.args.g.now c.args.index.now c.requires.index c.args.known.now c.args.range c.args.vertex _ (read (goal.at.follow-more-requires-clause-to_in c).In-loop-edge c.loop-edge-test.true)).1 in
    subst (IsInRange c.args.range) (sym at) c.requires.vertex_in

pub loop-edge-preserved : goal.loop-edge-preserved
loop-edge-preserved c =
    let g = c.args.g.now in
    let es = c.of-edges.result.now in
    let n = c.loop-edge.edge-index in
    let low = c.loop-edge-test.true in
    let new = c.follow-more.new.self in
    let more = c.loop-edge.grows || c.follow-more.result in
    subst (λ (k : List Edge). IsSpreading g c.args.known.now c.args.range c.args.vertex c.args.self.now k new more) (sym (take_more es n none low))
    (spread_goes g c.args.index.now c.requires.index c.args.known.now c.args.range c.args.vertex c.args.self.now (take n es) (get_or es n none) c.loop-edge.self new c.loop-edge.grows c.follow-more.result
    (read (goal.at.loop-edge-preserved c).In-loop-edge low) c.loop-edge.invariant c.follow-more.ensures.spread c.follow-more.ensures.above)

pub returns-clause-spread : goal.returns-clause-spread
returns-clause-spread c = c.loop-edge.invariant.spread

pub returns-clause-above : goal.returns-clause-above
returns-clause-above c = λ u inside along.
    let es = c.of-edges.result.now in
    let n = c.loop-edge.edge-index in
    let ended = c.loop-edge-test.false in
    let all : take n es ≡ group_at c.args.index.now.ends c.args.vertex = take_all n es (omega (arith, ended)) ∙ c.of-edges.ensures in
    spread_ends c.args.g.now c.args.index.now c.requires.index c.args.known.now c.args.range c.args.vertex c.args.self.now c.loop-edge.self c.loop-edge.grows
    (subst (λ (k : List Edge). IsSpreading c.args.g.now c.args.known.now c.args.range c.args.vertex c.args.self.now k c.loop-edge.self c.loop-edge.grows) all c.loop-edge.invariant) u inside along
