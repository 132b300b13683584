use Rattle.std.proofs.Common.{refl, ◌∙◌}
use Rattle.std.proofs.lemmas.List.{length-set}
use Rattle.dep_model.specs.Facts.{HoldsFact}
use Rattle.summary_edges.proofs.FillLaws.{taken_fills, taken_shape}
use Rattle.summary_edges.proofs.exit_rows.ExitRows.take.Goals as goal

pub spread-requires-clause-table : goal.spread-requires-clause-table
spread-requires-clause-table c =
    let t = c.requires.filling.room.table in
    record { sized = t.sized; flags = length-set c.args.self.now.fresh.items _ _ ∙ t.flags }

pub spread-requires-clause-room : goal.spread-requires-clause-room
spread-requires-clause-room c = c.requires.filling.room.vertices

pub returns-clause-filling : goal.returns-clause-filling
returns-clause-filling c =
    let t = c.requires.filling.room.table in
    taken_fills c.args.g.now (HoldsFact c.args.g.now c.args.known.now) c.args.part c.args.vertex c.requires.vertex_in c.args.self.now _ c.spread.new.self c.spread.result c.requires.filling refl refl
    c.spread.ensures.spread c.spread.ensures.above (record { sized = t.sized; flags = length-set c.args.self.now.fresh.items _ _ ∙ t.flags })

pub returns-clause-shape : goal.returns-clause-shape
returns-clause-shape c =
    let t = c.requires.filling.room.table in
    taken_shape c.args.g.now (HoldsFact c.args.g.now c.args.known.now) c.args.part c.args.vertex c.requires.vertex_in c.args.self.now _ c.spread.new.self c.spread.result c.requires.filling refl refl
    c.spread.ensures.spread c.spread.ensures.above (record { sized = t.sized; flags = length-set c.args.self.now.fresh.items _ _ ∙ t.flags })

pub returns-clause-grown : goal.returns-clause-grown
returns-clause-grown c = c.spread.ensures.spread.grown

pub returns-clause-taken : goal.returns-clause-taken
returns-clause-taken c = c.spread.ensures.spread.none
