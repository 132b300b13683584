use Rattle.std.proofs.Common.{◌≡◌, ◌⊎◌, ◌+◌, ◌*◌, ◌≤◌, arith}
use Rattle.summary_edges.specs.Steps.{IsReadAt, IsReadIn}
use Rattle.summary_edges.proofs.FillLaws.{number_below}
use Rattle.summary_edges.proofs.StepLaws.{ReadFrom, added_none, added_as, added_both, from_none, from_more, from_all, word_none}
use Rattle.summary_edges.proofs.step.read_word.Goals as goal

pub words-row-requires : goal.words-row-requires
words-row-requires c = number_below c.args.part.range c.args.formal_in _ c.requires.in_in c.requires.room.vertices

pub bounds-row-word : goal.bounds-row-word
bounds-row-word c =
    let len = c.words-row.ensures.len in
    let inside = c.requires.inside in
    let exits = c.requires.room.exits in
    omega (arith, len, inside, exits)

pub returns-then-bits-eq0 : goal.returns-then-bits-eq0
returns-then-bits-eq0 c =
    let g = c.args.g.now in
    let p = c.args.part in
    let x = c.args.table.now in
    added_none g p (IsReadIn g p x c.args.formal_in c.args.word) c.args.words.now
    (word_none g c.requires.index.shaped.rows_are p c.requires.part x c.args.formal_in c.args.word c.words-row.result.now c.requires.room c.words-row.ensures.holds (omega (arith, c.if-bits-eq0.true)))

pub loop-exit-init : goal.loop-exit-init
loop-exit-init c =
    let g = c.args.g.now in
    let p = c.args.part in
    let x = c.args.table.now in
    added_none g p (ReadFrom g p x c.args.formal_in (64 * c.args.word) (64 * c.args.word)) c.args.words.now (from_none g c.requires.index.shaped.rows_are p c.requires.part x c.args.formal_in (64 * c.args.word))

pub read_exit-more-requires-clause-exit : goal.read_exit-more-requires-clause-exit
read_exit-more-requires-clause-exit c =
    let low = c.loop-exit-test.true in
    let count = c.min-count.ensures in
    let inside = c.requires.inside in
    omega (arith, low, count, inside)

pub read_exit-more-requires-clause-long : goal.read_exit-more-requires-clause-long
read_exit-more-requires-clause-long c = let a = c.loop-exit.invariant.grown.long in let b = c.requires.long in omega (arith, a, b)

pub loop-exit-preserved : goal.loop-exit-preserved
loop-exit-preserved c =
    let g = c.args.g.now in
    let p = c.args.part in
    let x = c.args.table.now in
    let v = c.args.formal_in in
    let e = c.loop-exit.exit in
    let first = 64 * c.args.word in
    let from : 64 * c.args.word ≤ c.loop-exit.exit = omega arith in
    added_as g p (λ a b. ReadFrom g p x v first e a b ⊎ IsReadAt g p x v e a b) (ReadFrom g p x v first (e + 1)) c.args.words.now c.read_exit-more.new.words _
    (λ a b. from_more g c.requires.index.shaped.rows_are p c.requires.part x v first e a b from)
    (added_both g p (ReadFrom g p x v first e) (IsReadAt g p x v e) c.args.words.now c.loop-exit.words c.read_exit-more.new.words c.loop-exit.grows c.read_exit-more.result c.loop-exit.invariant c.read_exit-more.ensures)

pub returns : goal.returns
returns c =
    let g = c.args.g.now in
    let p = c.args.part in
    let x = c.args.table.now in
    let v = c.args.formal_in in
    let w = c.args.word in
    let most = c.loop-exit.auto.exit-end in
    let ended = c.loop-exit-test.false in
    let all : c.loop-exit.exit ≡ 64 * c.args.word + c.min-count.result = omega (arith, most, ended) in
    added_as g p (ReadFrom g p x v (64 * w) c.loop-exit.exit) (IsReadIn g p x v w) c.args.words.now c.loop-exit.words c.loop-exit.grows
    (from_all g c.requires.index.shaped.rows_are p c.requires.part x v w c.loop-exit.exit c.min-count.result c.min-count.ensures c.requires.inside all) c.loop-exit.invariant
