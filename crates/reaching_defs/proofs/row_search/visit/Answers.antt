use Rattle.std.proofs.Common.{◌≡◌, ◌+◌, ◌-◌, ◌<◌, length, sym, subst, arith}
use Rattle.std.proofs.lemmas.List.{get_or_read}
use Rattle.reaching_defs.specs.Stretches.{IsLastFrom}
use Rattle.reaching_defs.proofs.RowSearchLemmas.{IsJoining, joining_moves, joining_ends}
use Rattle.reaching_defs.proofs.SearchLemmas.{pair_among}
use Rattle.reaching_defs.proofs.row_search.visit.Goals as goal

pub join-requires-clause-inside : goal.join-requires-clause-inside
join-requires-clause-inside c =
    let i = c.loop-cursor.invariant in
    let next = c.args.next.now in
    let pairs = next.pairs.items in
    let cursor = c.loop-cursor.cursor in
    let x = c.index.result.now in
    let low : 0 < cursor = c.loop-cursor-test.true in
    let place : cursor - 1 < length pairs = omega (arith, i.within, low) in
    let e = pair_among next.stretch.first next.stretch.size pairs c.requires.next.inside x (cursor - 1, place, sym c.index.ensures) in
    omega (arith, e.to_low, e.to_high, i.gained.bound_stays, c.requires.wide)

pub loop-cursor-preserved : goal.loop-cursor-preserved
loop-cursor-preserved c =
    let i = c.loop-cursor.invariant in
    let next = c.args.next.now in
    let base = next.stretch.first in
    let pairs = next.pairs.items in
    let indexed = c.requires.next.indexed in
    let cursor = c.loop-cursor.cursor in
    let x = c.index.result.now in
    let at = sym c.index.ensures in
    let low : 0 < cursor = c.loop-cursor-test.true in
    let place : cursor - 1 < length pairs = omega (arith, i.within, low) in
    let e = pair_among base next.stretch.size pairs c.requires.next.inside x (cursor - 1, place, at) in
    let read = get_or_read next.nexts.items (cursor - 1) _ (omega (arith, place, indexed.long)) c.index-cursor-in-loop-cursor.ensures 0 in
    let before = subst (IsLastFrom pairs x.from (cursor - 1)) (sym read) (indexed.nexts_are (cursor - 1) x place at) in
    joining_moves base pairs _ c.args.words.now c.args.arrivals.now cursor _ x c.loop-cursor.arrivals c.join.new.self i low at before e.to_low c.join.ensures.gained c.join.ensures.all

pub returns-clause-all : goal.returns-clause-all
returns-clause-all c =
    let next = c.args.next.now in
    let words = c.args.words.now in
    let old = c.args.arrivals.now in
    let new = c.loop-cursor.arrivals in
    let u = next.stretch.first + c.args.u in
    let zero : c.loop-cursor.cursor ≡ 0 = omega arith in
    joining_ends next.stretch.first next.pairs.items u words old new (subst (λ k. IsJoining next.stretch.first next.pairs.items u words old k new) zero c.loop-cursor.invariant)
