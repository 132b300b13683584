-- Nothing is added for another kind of statement, or for none.
use Rattle.std.proofs.Common.{sym, ap, ◌∙◌}
use Rattle.effect_rows.proofs.ReadLemmas.{none_read}
use Rattle.vertex_layout.specs.RowWork.{own_at, is_call, defines_where}
use Rattle.vertex_layout.proofs.SlotRows.{unlike, defines_elsewhere, nothing_defined}
use Rattle.vertex_layout.proofs.row_work.RowWork.add_own_defines.Goals as goal

pub returns-else-is_call-of_call-clause-gained : goal.returns-else-is_call-of_call-clause-gained
returns-else-is_call-of_call-clause-gained c =
    let w = c.args.self.now in
    let d = own_at w c.args.i in
    let b = c.args.of_call in
    none_read w.program c.args.row c.args.rows.now (defines_where w c.args.f d b)
    (defines_elsewhere w c.args.f d b (unlike c.is_call.result b c.if-is_call-of_call.false (is_call d) (c.is_call.ensures ∙ ap is_call (sym c.in-Some.ensures.some))))

pub returns-in_default-clause-gained : goal.returns-in_default-clause-gained
returns-in_default-clause-gained c =
    let w = c.args.self.now in
    let b = c.args.of_call in
    none_read w.program c.args.row c.args.rows.now (defines_where w c.args.f (own_at w c.args.i) b)
    (ap (λ d. defines_where w c.args.f d b) (c.statement.ensures.none c.in_default.is) ∙ nothing_defined w c.args.f b)
