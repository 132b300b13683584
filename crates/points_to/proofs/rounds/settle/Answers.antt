use Rattle.std.proofs.Common.{◌*◌, ◌-◌, ◌<◌, ◌≤◌, ◌∙◌, Bool, false, length, refl, subst, arith}
use Rattle.bit_rows.specs.Tables.{count_all}
use Rattle.c_tree.specs.declared.program.Program.{Program}
use Rattle.dep_model.specs.LocationLists.{location_list}
use Rattle.dep_model.specs.LocationRows.{HasPointsRows}
use Rattle.dep_model.specs.Locations.{locations}
use Rattle.points_laws.proofs.ListedPairs.{pairs_listed}
use Rattle.points_to.specs.Rounds.{IsRound}
use Rattle.points_to.proofs.MoveLemmas.{of_program}
use Rattle.points_to.proofs.RoundLemmas.{settled, held_begins, nowhere_derived, count_bounded}
use Rattle.points_to.proofs.rounds.settle.Goals as goal

pub loop-alloc-init : goal.loop-alloc-init
loop-alloc-init c =
    let w = c.args.solver.now in
    let p = w.effects in
    record {
      ready = c.requires.ready;
      program = refl;
      statements = c.requires.statements;
      derived = nowhere_derived p w.points (length (location_list p)) (length (location_list p)) c.requires.nowhere;
      held = held_begins p c.args.moves.now w c.requires.none;
    }

pub loop-alloc-preserved : goal.loop-alloc-preserved
loop-alloc-preserved c =
    let p = c.args.solver.now.effects in
    let i = c.loop-alloc.invariant in
    let e : IsRound p c.args.moves.now 0 (length c.args.moves.now) c.loop-alloc.solver c.round.new.solver c.round.result = subst (λ q. IsRound q c.args.moves.now 0 (length c.args.moves.now) c.loop-alloc.solver c.round.new.solver c.round.result) i.program c.round.ensures in
    record {
      ready = e.ready;
      program = e.program_stays;
      statements = e.statements_stay ∙ i.statements;
      derived = e.sound (of_program p c.args.moves.now c.requires.moves) i.derived;
      held = e.held i.held;
    }

pub loop-alloc-smaller : goal.loop-alloc-smaller
loop-alloc-smaller c =
    let p = c.args.solver.now.effects in
    let n = length (locations p) in
    let i = c.loop-alloc.invariant in
    let e : IsRound p c.args.moves.now 0 (length c.args.moves.now) c.loop-alloc.solver c.round.new.solver c.round.result = subst (λ q. IsRound q c.args.moves.now 0 (length c.args.moves.now) c.loop-alloc.solver c.round.new.solver c.round.result) i.program c.round.ensures in
    let rows : HasPointsRows p c.round.new.solver.points = subst (λ (q : Program). HasPointsRows q c.round.new.solver.points) e.program_stays e.ready.points_are in
    let old = count_all c.loop-alloc.solver.points.rows in
    let new = count_all c.round.new.solver.points.rows in
    let bound : new ≤ n * n = count_bounded n c.round.new.solver.points.rows rows.sized in
    let more : old < new = e.grown.more c.loop-alloc-test.true in
    let less : n * n - new < n * n - old = omega arith in
    less

pub returns : goal.returns
returns c =
    let p = c.args.solver.now.effects in
    let i = c.loop-alloc.invariant in
    let ms = c.args.moves.now in
    let e : IsRound p ms 0 (length ms) c.loop-alloc.solver c.round.new.solver c.round.result = subst (λ q. IsRound q ms 0 (length ms) c.loop-alloc.solver c.round.new.solver c.round.result) i.program c.round.ensures in
    let last : IsRound p ms 0 (length ms) c.loop-alloc.solver c.round.new.solver false = subst (λ (b : Bool). IsRound p ms 0 (length ms) c.loop-alloc.solver c.round.new.solver b) c.loop-alloc-test.false e in
    record { exact = settled p ms c.loop-alloc.solver c.round.new.solver c.requires.moves (pairs_listed p c.requires.known) c.requires.known.globals i.derived i.held last }
