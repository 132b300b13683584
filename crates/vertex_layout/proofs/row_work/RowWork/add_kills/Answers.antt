-- What a vertex has not.
use Rattle.std.proofs.Common.{◌≡◌, ap, ◌∙◌}
use Rattle.dep_model.specs.declared.vertex.Slot.TheVariants.{Argument}
use Rattle.dep_model.specs.VertexOrder.{kind_kills, doing_at, out_kills}
use Rattle.effect_rows.proofs.ReadLemmas.{none_read}
use Rattle.vertex_layout.specs.RowWork.{points_for}
use Rattle.vertex_layout.proofs.SlotRows.{out_killed_argument}
use Rattle.vertex_layout.proofs.row_work.RowWork.add_kills.Goals as goal

pub returns-in-Entry-clause-gained : goal.returns-in-Entry-clause-gained
returns-in-Entry-clause-gained c =
    let w = c.args.self.now in
    none_read w.program c.args.row c.args.rows.now (kind_kills w.program (points_for w) c.args.f c.args.kind) (ap (kind_kills w.program (points_for w) c.args.f) c.in-Entry.is)

pub returns-in-FormalIn-clause-gained : goal.returns-in-FormalIn-clause-gained
returns-in-FormalIn-clause-gained c =
    let w = c.args.self.now in
    none_read w.program c.args.row c.args.rows.now (kind_kills w.program (points_for w) c.args.f c.args.kind) (ap (kind_kills w.program (points_for w) c.args.f) c.in-FormalIn.is)

pub returns-in-FormalOut-clause-gained : goal.returns-in-FormalOut-clause-gained
returns-in-FormalOut-clause-gained c =
    let w = c.args.self.now in
    none_read w.program c.args.row c.args.rows.now (kind_kills w.program (points_for w) c.args.f c.args.kind) (ap (kind_kills w.program (points_for w) c.args.f) c.in-FormalOut.is)

pub returns-in-Call-clause-gained : goal.returns-in-Call-clause-gained
returns-in-Call-clause-gained c =
    let w = c.args.self.now in
    none_read w.program c.args.row c.args.rows.now (kind_kills w.program (points_for w) c.args.f c.args.kind) (ap (kind_kills w.program (points_for w) c.args.f) c.in-Call.is)

pub returns-in-ActualIn-clause-gained : goal.returns-in-ActualIn-clause-gained
returns-in-ActualIn-clause-gained c =
    let w = c.args.self.now in
    none_read w.program c.args.row c.args.rows.now (kind_kills w.program (points_for w) c.args.f c.args.kind) (ap (kind_kills w.program (points_for w) c.args.f) c.in-ActualIn.is)

pub returns-in-ActualOut-default-Argument-clause-gained : goal.returns-in-ActualOut-default-Argument-clause-gained
returns-in-ActualOut-default-Argument-clause-gained c =
    let w = c.args.self.now in
    let p = w.program in
    let to = points_for w in
    let x = c.in-ActualOut-default-Argument in
    let slot : x.field-1 ≡ Argument x.field-1-0 = rw x.is at x.field-1-is in
    let d = doing_at p c.args.f x.field-0 in
    none_read p c.args.row c.args.rows.now (kind_kills p to c.args.f c.args.kind) (ap (kind_kills p to c.args.f) x.is ∙ ap (out_kills p to c.args.f d) slot ∙ out_killed_argument p to c.args.f x.field-1-0 d)
