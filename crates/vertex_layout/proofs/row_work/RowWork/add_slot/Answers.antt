-- A function may lack the parameter.
use Rattle.std.proofs.Common.{◌≡◌, None, slice_get, sym, ap, ◌∙◌}
use Rattle.c_tree.specs.declared.program.Program.{Program}
use Rattle.dep_model.specs.MayPoint.{parameters}
use Rattle.dep_model.specs.VertexOrder.{slot_places, of_parameter}
use Rattle.effect_rows.proofs.ReadLemmas.{none_read}
use Rattle.vertex_layout.specs.RowWork.{RowWork, points_for}
use Rattle.vertex_layout.proofs.row_work.RowWork.add_slot.Goals as goal

pub returns-in_default-clause-gained : goal.returns-in_default-clause-gained
returns-in_default-clause-gained c =
    let w = c.args.self.now in
    let p = w.program in
    let f = c.args.f in
    let k = c.in-Argument.k in
    let same : c.self.inside.program.now ≡ p = ap (λ (v : RowWork). v.program) c.self.view_is in
    let none : slice_get (parameters p f) k ≡ None = sym (c.parameter.ensures ∙ ap (λ (r : Program). slice_get (parameters r f) k) same) ∙ c.in_default.is in
    none_read p c.args.row c.args.rows.now (slot_places p (points_for w) f c.args.slot) (ap (slot_places p (points_for w) f) c.in-Argument.is ∙ ap (of_parameter p (points_for w)) none)
