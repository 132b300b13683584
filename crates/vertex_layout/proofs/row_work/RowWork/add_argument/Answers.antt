-- The argument at the place is read, where there is one.
use Rattle.std.proofs.Common.{length, refl, ap, ◌∙◌}
use Rattle.std.proofs.lemmas.Option.{slice_get_read, slice_get_past}
use Rattle.dep_model.specs.declared.vertex.Slot.TheVariants.{Argument}
use Rattle.dep_model.specs.Denoted.{expr_reads}
use Rattle.dep_model.specs.VertexOrder.{actual_uses}
use Rattle.effect_rows.specs.Gains.{with_places}
use Rattle.effect_rows.proofs.ReadLemmas.{none_read}
use Rattle.vertex_layout.specs.RowWork.{own_at, points_for}
use Rattle.vertex_layout.proofs.OpenWork.{opened, gained_in}
use Rattle.vertex_layout.proofs.SlotRows.{no_argument, argument_is, argument_missing}
use Rattle.vertex_layout.proofs.row_work.RowWork.add_argument.Goals as goal

pub returns-in-Some-get-clause-gained : goal.returns-in-Some-get-clause-gained
returns-in-Some-get-clause-gained c f =
    let w = c.args.self.now in
    let p = w.program in
    let call = c.in-Some.call in
    let e = c.in-Some-get.argument.now in
    let q = c.self.inside.effects in
    let t = c.self.inside.points.now in
    let found = c.in-Some-get.ensures.lookup in
    gained_in w q t (opened w _ _ _ c.self.view_is q c.self.invariant.same) c.args.row (λ r from. expr_reads r from e) c.args.rows.now c.add_reads.new.rows c.add_reads.ensures.gained
    ∙ ap (λ a. with_places p c.args.row a c.args.rows.now)
    (argument_is p (points_for w) f c.args.k (own_at w c.args.i) call e c.in-Some.ensures.some (slice_get_read call.args.now (length call.args.now) c.args.k e refl found.3.0 found.1))

pub returns-in_default-get-clause-gained : goal.returns-in_default-get-clause-gained
returns-in_default-get-clause-gained c f =
    let w = c.args.self.now in
    let call = c.in-Some.call in
    let d = own_at w c.args.i in
    none_read w.program c.args.row c.args.rows.now (actual_uses w.program (points_for w) f d (Argument c.args.k))
    (argument_missing w.program (points_for w) f c.args.k d call c.in-Some.ensures.some (slice_get_past call.args.now c.args.k c.in_default-get.ensures.lookup.3))

pub returns-in_default-clause-gained : goal.returns-in_default-clause-gained
returns-in_default-clause-gained c f =
    let w = c.args.self.now in
    let d = own_at w c.args.i in
    none_read w.program c.args.row c.args.rows.now (actual_uses w.program (points_for w) f d (Argument c.args.k)) (no_argument w.program (points_for w) f c.args.k d (c.call.ensures.none c.in_default.is))
