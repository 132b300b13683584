-- What a vertex has not.
use Rattle.std.proofs.Common.{◌≡◌, ap, ◌∙◌}
use Rattle.dep_model.specs.declared.vertex.Slot.TheVariants.{Argument, Result, At}
use Rattle.dep_model.specs.VertexOrder.{kind_uses, doing_at, actual_uses, out_uses}
use Rattle.effect_rows.proofs.ReadLemmas.{none_read}
use Rattle.vertex_layout.specs.RowWork.{points_for}
use Rattle.vertex_layout.proofs.SlotRows.{in_result, out_used_argument, out_used_location}
use Rattle.vertex_layout.proofs.row_work.RowWork.add_uses.Goals as goal

pub returns-in-Entry-clause-gained : goal.returns-in-Entry-clause-gained
returns-in-Entry-clause-gained c =
    let w = c.args.self.now in
    none_read w.program c.args.row c.args.rows.now (kind_uses w.program (points_for w) c.args.f c.args.kind) (ap (kind_uses w.program (points_for w) c.args.f) c.in-Entry.is)

pub returns-in-FormalIn-clause-gained : goal.returns-in-FormalIn-clause-gained
returns-in-FormalIn-clause-gained c =
    let w = c.args.self.now in
    none_read w.program c.args.row c.args.rows.now (kind_uses w.program (points_for w) c.args.f c.args.kind) (ap (kind_uses w.program (points_for w) c.args.f) c.in-FormalIn.is)

pub returns-in-Call-clause-gained : goal.returns-in-Call-clause-gained
returns-in-Call-clause-gained c =
    let w = c.args.self.now in
    none_read w.program c.args.row c.args.rows.now (kind_uses w.program (points_for w) c.args.f c.args.kind) (ap (kind_uses w.program (points_for w) c.args.f) c.in-Call.is)

pub returns-in-ActualIn-default-Result-clause-gained : goal.returns-in-ActualIn-default-Result-clause-gained
returns-in-ActualIn-default-Result-clause-gained c =
    let w = c.args.self.now in
    let p = w.program in
    let to = points_for w in
    let x = c.in-ActualIn-default-Result in
    let slot : x.field-1 ≡ Result = rw x.is at x.field-1-is in
    let d = doing_at p c.args.f x.field-0 in
    none_read p c.args.row c.args.rows.now (kind_uses p to c.args.f c.args.kind) (ap (kind_uses p to c.args.f) x.is ∙ ap (actual_uses p to c.args.f d) slot ∙ in_result p to c.args.f d)

pub returns-in-ActualOut-default-Argument-clause-gained : goal.returns-in-ActualOut-default-Argument-clause-gained
returns-in-ActualOut-default-Argument-clause-gained c =
    let w = c.args.self.now in
    let p = w.program in
    let to = points_for w in
    let x = c.in-ActualOut-default-Argument in
    let slot : x.field-1 ≡ Argument x.field-1-0 = rw x.is at x.field-1-is in
    let d = doing_at p c.args.f x.field-0 in
    none_read p c.args.row c.args.rows.now (kind_uses p to c.args.f c.args.kind) (ap (kind_uses p to c.args.f) x.is ∙ ap (out_uses p to d) slot ∙ out_used_argument p to x.field-1-0 d)

pub returns-in-ActualOut-default-At-clause-gained : goal.returns-in-ActualOut-default-At-clause-gained
returns-in-ActualOut-default-At-clause-gained c =
    let w = c.args.self.now in
    let p = w.program in
    let to = points_for w in
    let x = c.in-ActualOut-default-At in
    let slot : x.field-1 ≡ At x.field-1-0 = rw x.is at x.field-1-is in
    let d = doing_at p c.args.f x.field-0 in
    none_read p c.args.row c.args.rows.now (kind_uses p to c.args.f c.args.kind) (ap (kind_uses p to c.args.f) x.is ∙ ap (out_uses p to d) slot ∙ out_used_location p to x.field-1-0 d)
