-- The rows are made vertex by vertex.
use Rattle.std.proofs.Common.{List, length, refl, ap, ◌∙◌}
use Rattle.std.proofs.lemmas.List.{length-map}
use Rattle.dep_model.specs.declared.location.Location.{Location}
use Rattle.dep_model.specs.LocationRows.{points_of}
use Rattle.dep_model.specs.Locations.{TypedLocation, locations}
use Rattle.dep_model.specs.VertexOrder.{vertex_effects}
use Rattle.vertex_layout.proofs.MadeLemmas.{made_ends, rows_begin, row_within, found_next, sized_next, made_next}
use Rattle.vertex_layout.proofs.rows.find.Goals as goal

pub loop-v-init : goal.loop-v-init
loop-v-init c =
    let p = c.args.p.now in
    let r = c.in_ok-rows in (
      c.in_ok-work.ensures,
      rows_begin p (points_of p c.args.t.now) c.args.vertices.now _ _ r.rows refl
          (c.len.ensures ∙ ap (λ (ls : List Location). length ls) c.requires.list_is ∙ length-map (locations p) (λ (o : TypedLocation). o.location)) r.ensures.defined r.ensures.used r.ensures.killed,
    )

pub add-requires-clause-found : goal.add-requires-clause-found
add-requires-clause-found c = found_next c.loop-v.work c.args.p.now c.args.t.now c.args.vertices.now c.loop-v.v _ c.loop-v-test.true c.loop-v.invariant.0 c.requires.found

pub add-requires-clause-sized : goal.add-requires-clause-sized
add-requires-clause-sized c = sized_next c.loop-v.work c.args.p.now c.args.t.now c.args.vertices.now c.loop-v.v c.loop-v.rows c.loop-v.invariant.0 c.loop-v.invariant.1

pub add-requires-clause-row_in : goal.add-requires-clause-row_in
add-requires-clause-row_in c = row_within c.args.p.now (points_of c.args.p.now c.args.t.now) c.args.vertices.now c.loop-v.v c.loop-v.rows c.loop-v-test.true c.loop-v.invariant.1

pub loop-v-preserved : goal.loop-v-preserved
loop-v-preserved c = (
  c.add.ensures.kept ∙ c.loop-v.invariant.0,
  made_next c.loop-v.work c.args.p.now c.args.t.now c.args.vertices.now c.loop-v.v _ c.loop-v-test.true c.loop-v.invariant.0 c.loop-v.rows c.add.new.self c.add.ensures.gained c.loop-v.invariant.1,
)

pub returns-clause-defined : goal.returns-clause-defined
returns-clause-defined c =
    let p = c.args.p.now in
    made_ends p c.args.vertices.now (vertex_effects p (points_of p c.args.t.now)).defines c.loop-v.v c.loop-v.rows.defined c.loop-v-test.false c.loop-v.invariant.1.defined_made

pub returns-clause-used : goal.returns-clause-used
returns-clause-used c =
    let p = c.args.p.now in
    made_ends p c.args.vertices.now (vertex_effects p (points_of p c.args.t.now)).uses c.loop-v.v c.loop-v.rows.used c.loop-v-test.false c.loop-v.invariant.1.used_made

pub returns-clause-killed : goal.returns-clause-killed
returns-clause-killed c =
    let p = c.args.p.now in
    made_ends p c.args.vertices.now (vertex_effects p (points_of p c.args.t.now)).kills c.loop-v.v c.loop-v.rows.killed c.loop-v-test.false c.loop-v.invariant.1.killed_made
