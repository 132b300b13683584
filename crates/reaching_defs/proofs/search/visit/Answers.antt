use Rattle.std.proofs.Common.{◌≡◌, ◌+◌, ◌-◌, ◌<◌, length, sym, ◌∙◌, subst, arith}
use Rattle.std.proofs.lemmas.List.{get_or_read}
use Rattle.reaching_defs.specs.Stretches.{IsLastFrom}
use Rattle.reaching_defs.proofs.SearchLemmas.{IsVisiting, pair_among, visit_moves, visit_ends}
use Rattle.reaching_defs.proofs.search.visit.Goals as goal

pub loop-cursor-preserved : goal.loop-cursor-preserved
loop-cursor-preserved c =
    let i = c.loop-cursor.invariant in
    let next = c.args.next.now in
    let base = next.stretch.first in
    let pairs = next.pairs.items in
    let indexed = c.requires.next.indexed in
    let cursor = c.loop-cursor.cursor in
    let x = c.index.result.now in
    let at = sym c.index.ensures in
    let low : 0 < cursor = c.loop-cursor-test.true in
    let place : cursor - 1 < length pairs = omega (arith, i.visiting.within, low) in
    let e = pair_among base next.stretch.size pairs c.requires.next.inside x (cursor - 1, place, at) in
    let read = get_or_read next.nexts.items (cursor - 1) _ (omega (arith, place, indexed.long)) c.index-cursor-in-loop-cursor.ensures 0 in
    let before = subst (IsLastFrom pairs x.from (cursor - 1)) (sym read) (indexed.nexts_are (cursor - 1) x place at) in
    record {
      size = c.add.ensures.bound ∙ i.size;
      visiting = visit_moves base pairs _ c.args.reached.now.members cursor _ x c.loop-cursor.reached.members c.add.new.self.members i.visiting low at before e.to_low c.add.ensures.exact c.add.ensures.front;
    }

pub returns-clause-all : goal.returns-clause-all
returns-clause-all c =
    let next = c.args.next.now in
    let old = c.args.reached.now.members in
    let new = c.loop-cursor.reached.members in
    let u = next.stretch.first + c.args.u in
    let zero : c.loop-cursor.cursor ≡ 0 = omega arith in
    visit_ends next.stretch.first next.pairs.items u old new (subst (λ k. IsVisiting next.stretch.first next.pairs.items u old k new) zero c.loop-cursor.invariant.visiting)
