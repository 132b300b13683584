-- A statement that isn't a call stores no result.
use Rattle.dep_model.specs.declared.vertex.Slot.TheVariants.{Result}
use Rattle.dep_model.specs.VertexOrder.{out_uses}
use Rattle.effect_rows.proofs.ReadLemmas.{none_read}
use Rattle.vertex_layout.specs.RowWork.{own_at, points_for}
use Rattle.vertex_layout.proofs.SlotRows.{no_result}
use Rattle.vertex_layout.proofs.row_work.RowWork.add_out_uses.Goals as goal

pub returns-in_default-clause-gained : goal.returns-in_default-clause-gained
returns-in_default-clause-gained c =
    let w = c.args.self.now in
    let d = own_at w c.args.i in
    none_read w.program c.args.row c.args.rows.now (out_uses w.program (points_for w) d Result) (no_result w.program (points_for w) d (c.call.ensures.none c.in_default.is))
