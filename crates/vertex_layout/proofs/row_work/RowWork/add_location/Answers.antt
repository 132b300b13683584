-- The location is in the list, or there is none.
use Rattle.std.proofs.Common.{◌<◌, ◌≤◌, length, arith}
use Rattle.dep_model.specs.Locations.{locations}
use Rattle.effect_rows.specs.Gains.{HasLocationRow}
use Rattle.vertex_layout.specs.RowWork.{IsWork, points_for}
use Rattle.vertex_layout.proofs.OpenWork.{worked}
use Rattle.vertex_layout.proofs.SlotRows.{location_gained, no_location_gained}
use Rattle.vertex_layout.proofs.row_work.RowWork.add_location.Goals as goal

pub returns-then-k-self-clause-gained : goal.returns-then-k-self-clause-gained
returns-then-k-self-clause-gained c =
    let w = c.args.self.now in
    let row = c.args.row in
    let has : HasLocationRow w.program row c.args.rows.now = record { sized = c.requires.sized; row_in = c.requires.row_in } in
    let work : IsWork w.program w.rows c.self.inside.locations = worked w _ _ _ c.self.view_is c.self.inside.locations c.self.invariant.is in
    let many = work.count_is in
    let test = c.if-k-self.true in
    let low : c.args.k < length (locations w.program) = omega (arith, many, test) in
    location_gained w.program (points_for w) row c.args.rows.now c.set.new.self c.args.k has work.once low c.set.ensures.added

pub returns-else-k-self-clause-gained : goal.returns-else-k-self-clause-gained
returns-else-k-self-clause-gained c =
    let w = c.args.self.now in
    let work : IsWork w.program w.rows c.self.inside.locations = worked w _ _ _ c.self.view_is c.self.inside.locations c.self.invariant.is in
    let many = work.count_is in
    let test = c.if-k-self.false in
    let high : length (locations w.program) ≤ c.args.k = omega (arith, many, test) in
    no_location_gained w.program (points_for w) c.args.row c.args.rows.now c.args.k high
