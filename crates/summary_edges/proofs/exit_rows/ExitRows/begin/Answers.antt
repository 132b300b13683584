use Rattle.std.proofs.Common.{◌≡◌, ◌-◌, refl, sym, ap, subst, arith}
use Rattle.std.proofs.lemmas.List.{length-set}
use Rattle.dep_model.specs.declared.graph.OutRow.{OutRow}
use Rattle.dep_model.specs.Facts.{HoldsFact}
use Rattle.summary_edges.proofs.SpreadLaws.{one_shape, shapes_follow}
use Rattle.summary_edges.proofs.FillLaws.{IsBegun, number_below, room_stays, begun_none, begun_goes, begun_fills, exit_of, exit_read}
use Rattle.summary_edges.proofs.exit_rows.ExitRows.begin.Goals as goal

abbrev d : OutRow
d = record { vertex = 0; word = 0 }

pub loop-exit-init : goal.loop-exit-init
loop-exit-init c =
    let cleared = c.clear.new.self in
    begun_none c.args.g.now (HoldsFact c.args.g.now c.args.known.now) c.args.part cleared cleared (one_shape cleared c.clear.ensures.shape.table) c.clear.ensures.empty

pub overflow_sub-vertex : goal.overflow_sub-vertex
overflow_sub-vertex c =
    let g = c.args.g.now in
    let K = HoldsFact g c.args.known.now in
    let low = c.loop-exit-test.true in
    let inside = (exit_of g K c.args.part c.requires.shaped.rows_are c.requires.part c.loop-exit.exit low).0 in
    let is = exit_read g K c.args.part c.as_slice.result.now c.as_slice.ensures c.requires.part c.loop-exit.exit d low in
    omega (arith, inside, is)

pub set-requires-clause-row_in : goal.set-requires-clause-row_in
set-requires-clause-row_in c =
    let g = c.args.g.now in
    let K = HoldsFact g c.args.known.now in
    let p = c.args.part in
    let low = c.loop-exit-test.true in
    let is = exit_read g K p c.as_slice.result.now c.as_slice.ensures c.requires.part c.loop-exit.exit d low in
    let below = number_below p.range _ _ (exit_of g K p c.requires.shaped.rows_are c.requires.part c.loop-exit.exit low) c.requires.room.vertices in
    let cleared = c.clear.ensures.shape.rows_are in
    let rows = c.loop-exit.invariant.shape.rows_are in
    omega (arith, is, below, cleared, rows)

pub set-requires-clause-bit_in : goal.set-requires-clause-bit_in
set-requires-clause-bit_in c =
    let low = c.loop-exit-test.true in
    let room = c.requires.room.exits in
    let cleared = c.clear.ensures.shape.bits_are in
    let bits = c.loop-exit.invariant.shape.bits_are in
    omega (arith, low, room, cleared, bits)

pub loop-exit-preserved : goal.loop-exit-preserved
loop-exit-preserved c =
    let g = c.args.g.now in
    let K = HoldsFact g c.args.known.now in
    let p = c.args.part in
    let low = c.loop-exit-test.true in
    let cleared = c.clear.new.self in
    let is = exit_read g K p c.as_slice.result.now c.as_slice.ensures c.requires.part c.loop-exit.exit d low in
    begun_goes g K p cleared c.loop-exit.self _ c.loop-exit.exit _ (room_stays g K p c.args.self.now cleared c.requires.room c.clear.ensures.shape)
    (exit_of g K p c.requires.shaped.rows_are c.requires.part c.loop-exit.exit low) low (ap (λ v. v - p.range.first) (sym is)) c.loop-exit.invariant c.set.ensures.added c.set.ensures.size refl (length-set c.loop-exit.self.fresh.items _ _)

pub returns-clause-filling : goal.returns-clause-filling
returns-clause-filling c =
    let g = c.args.g.now in
    let K = HoldsFact g c.args.known.now in
    let p = c.args.part in
    let cleared = c.clear.new.self in
    let most = c.loop-exit.auto.exit-end in
    let ended = c.loop-exit-test.false in
    let all : c.loop-exit.exit ≡ p.last_row - p.first_row = omega (arith, most, ended) in
    begun_fills g K p c.requires.shaped.rows_are c.requires.part cleared c.loop-exit.self (room_stays g K p c.args.self.now cleared c.requires.room c.clear.ensures.shape)
    (subst (λ e. IsBegun g p cleared e c.loop-exit.self) all c.loop-exit.invariant)

pub returns-clause-shape : goal.returns-clause-shape
returns-clause-shape c = shapes_follow c.args.self.now c.clear.new.self c.loop-exit.self c.clear.ensures.shape c.loop-exit.invariant.shape
