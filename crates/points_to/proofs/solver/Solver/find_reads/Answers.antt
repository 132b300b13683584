-- What is read is made of what a statement may use, and of what the function returns that it calls.
use Rattle.std.proofs.Common.{length, sym, ap, ◌∙◌, subst, arith}
use Rattle.bit_rows.specs.Tables.{IsSized}
use Rattle.dep_model.specs.LocationRows.{points_of}
use Rattle.dep_model.specs.Locations.{locations}
use Rattle.effect_rows.specs.Gains.{with_places, HasLocationRow}
use Rattle.effect_rows.specs.Own.{own_uses}
use Rattle.effect_rows.proofs.GainLemmas.{gains_twice}
use Rattle.points_to.specs.Rounds.{own_pointing_reads, own_source, returned_by}
use Rattle.points_to.proofs.ReadyLemmas.{three_rows}
use Rattle.points_to.proofs.SidesLemmas.{filled_row}
use Rattle.points_to.proofs.solver.Solver.find_reads.Goals as goal

pub returns-clause-read : goal.returns-clause-read
returns-clause-read c =
    let w = c.args.self.now in
    let p = w.effects in
    let s = c.args.statement.now in
    let t = c.clear.new.self in
    let uses = own_uses p (points_of p w.points) s in
    let three = three_rows (length (locations p)) w.sides t c.requires.ready.sides_are c.clear.ensures.size in
    let row : HasLocationRow p 2 t = record { sized = subst (λ n. IsSized n (length (locations p)) t) (sym three.rows_are) three; row_in = omega (arith, three.rows_are) } in
    let both = c.add_returned.ensures.gained ∙ ap (λ q. with_places q 2 (returned_by c.called.result) c.add_uses.new.rows) c.add_uses.ensures.kept ∙ ap (λ o. with_places p 2 (returned_by o) c.add_uses.new.rows) c.called.ensures ∙ ap (with_places p 2 (own_source s)) c.add_uses.ensures.gained ∙ gains_twice p 2 uses (own_source s) t row in
    filled_row p 2 w.sides t c.requires.ready.sides_are (omega arith) c.clear.ensures.cleared (own_pointing_reads p (points_of p w.points) s) _ both
