use Rattle.std.proofs.Common.{◌≤◌, ◌<◌, ◌-◌, length, refl, arith}
use Rattle.summary_edges.proofs.GoingOnLaws.{noting_none, noting_goes}
use Rattle.summary_edges.proofs.worker.note_news.Goals as goal

pub loop-word-init : goal.loop-word-init
loop-word-init c = record { long = refl; noting = noting_none c.args.part c.args.own.now c.args.known.now c.args.news.now }

pub loop-word-preserved : goal.loop-word-preserved
loop-word-preserved c =
    let p = c.args.part in
    let inv = c.loop-word.invariant in
    let word = c.loop-word.word in
    let low = c.loop-word-test.true in
    let long = inv.long in
    let room = c.requires.news in
    let from : p.first_word ≤ c.loop-word.word = omega arith in
    let inside : c.loop-word.word < length c.loop-word.news = omega (arith, low, long, room) in
    let goes = noting_goes p c.args.own.now c.args.known.now c.args.news.now c.loop-word.news word from inside (c.type_inv.own (word - p.first_word)).fits inv.noting in
    record { long = goes.long; noting = goes }

pub returns : goal.returns
returns c =
    let inv = c.loop-word.invariant.noting in
    let ended = c.loop-word-test.false in
    record { long = inv.long; gained = λ w i from to few. inv.gained w i from (omega (arith, to, ended)) few; others = inv.others }
