use Rattle.std.proofs.Common.{eqb, refl}
use Rattle.std.specs.Cmp.Lexicographic.{pointwise}
use Rattle.std.specs.List.{between}
use Rattle.std.proofs.lemmas.Bool.Decides.{Decides-eqb}
use Rattle.std.proofs.lemmas.Slice.Eq.{slice_eq-Decides}
use Rattle.summary_edges.proofs.AgendaLaws.{compared}
use Rattle.summary_edges.proofs.agenda.has_changed.Goals as goal

pub returns : goal.returns
returns c =
    let p = c.args.part in
    let old = between p.first_word p.last_word c.args.before.now in
    let new = between p.first_word p.last_word c.args.after.now in
    compared p c.args.before.now c.args.after.now c.requires.before c.requires.after c.requires.order (pointwise eqb old new) c.ne.result (slice_eq-Decides Decides-eqb old new (pointwise eqb old new) refl) c.ne.ensures
