-- A call's vertex uses nothing.
use Rattle.std.proofs.Common.{sym, ap, ◌∙◌}
use Rattle.dep_model.specs.VertexOrder.{statement_uses}
use Rattle.effect_rows.specs.Gains.{with_places}
use Rattle.effect_rows.specs.Own.{own_doing, own_uses}
use Rattle.effect_rows.proofs.ReadLemmas.{none_read}
use Rattle.vertex_layout.specs.RowWork.{own_at, points_for}
use Rattle.vertex_layout.proofs.OpenWork.{opened, gained_in}
use Rattle.vertex_layout.proofs.SlotRows.{uses_here, no_uses}
use Rattle.vertex_layout.proofs.row_work.RowWork.add_statement_uses.Goals as goal

pub returns-then-not-is_call-clause-gained : goal.returns-then-not-is_call-clause-gained
returns-then-not-is_call-clause-gained c =
    let w = c.args.self.now in
    let p = w.program in
    let to = points_for w in
    let s = c.in-Some.statement.now in
    let q = c.self.inside.effects in
    let t = c.self.inside.points.now in
    gained_in w q t (opened w _ _ _ c.self.view_is q c.self.invariant.same) c.args.row (λ r from. own_uses r from s) c.args.rows.now c.add_uses.new.rows c.add_uses.ensures.gained
    ∙ ap (λ a. with_places p c.args.row a c.args.rows.now) (uses_here p to (own_doing s) (sym c.is_call.ensures ∙ c.if-not-is_call.true) ∙ ap (statement_uses p to) (sym c.in-Some.ensures.some))

pub returns-else-not-is_call-clause-gained : goal.returns-else-not-is_call-clause-gained
returns-else-not-is_call-clause-gained c =
    let w = c.args.self.now in
    let p = w.program in
    let to = points_for w in
    none_read p c.args.row c.args.rows.now (statement_uses p to (own_at w c.args.i))
    (ap (statement_uses p to) c.in-Some.ensures.some ∙ no_uses p to (own_doing c.in-Some.statement.now) (sym c.is_call.ensures ∙ c.if-not-is_call.false))

pub returns-in_default-clause-gained : goal.returns-in_default-clause-gained
returns-in_default-clause-gained c =
    let w = c.args.self.now in
    none_read w.program c.args.row c.args.rows.now (statement_uses w.program (points_for w) (own_at w c.args.i))
    (ap (statement_uses w.program (points_for w)) (c.statement.ensures.none c.in_default.is))
