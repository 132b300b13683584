use Rattle.std.proofs.Common.{ap, ◌∙◌, subst}
use Rattle.bit_rows.specs.Sets.{has}
use Rattle.bit_rows.specs.Tables.{the_set}
use Rattle.dep_model.specs.LocationLists.{AreListedOnce}
use Rattle.vertex_layout.specs.Seen.{SeenProgram}
use Rattle.vertex_layout.proofs.SeenRows.{row_says}
use Rattle.vertex_layout.proofs.seen.Seen.uses.Goals as goal

pub returns-then-f-len : goal.returns-then-f-len
returns-then-f-len c o at =
    let s = c.args.self.now in
    let once : AreListedOnce s.program = subst AreListedOnce (ap (λ (q : SeenProgram). q.program) c.self.view_is) c.self.invariant.once in
    row_says s.program once s.rows.used c.args.f c.args.k o c.has.result (c.has.ensures ∙ ap (λ (q : SeenProgram). has (the_set q.rows.used c.args.f) c.args.k) c.self.view_is) at
