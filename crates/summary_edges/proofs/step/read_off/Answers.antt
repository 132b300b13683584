use Rattle.std.proofs.Common.{◌≡◌, ◌⊎◌, ◌+◌, arith}
use Rattle.summary_edges.specs.Steps.{IsReadOff}
use Rattle.summary_edges.proofs.StepLaws.{ReadBefore, added_none, added_as, added_both, before_none, before_more, before_all}
use Rattle.summary_edges.proofs.step.read_off.Goals as goal

pub loop-vertex-init : goal.loop-vertex-init
loop-vertex-init c =
    let g = c.args.g.now in
    let x = c.args.table.now in
    added_none g c.args.part (ReadBefore g c.args.part x c.args.part.range.first) c.args.words.now (before_none g c.requires.index.shaped.rows_are c.args.part c.requires.part x)

pub read_vertex-more-requires-clause-long : goal.read_vertex-more-requires-clause-long
read_vertex-more-requires-clause-long c = let a = c.loop-vertex.invariant.grown.long in let b = c.requires.long in omega (arith, a, b)

pub loop-vertex-preserved : goal.loop-vertex-preserved
loop-vertex-preserved c =
    let g = c.args.g.now in
    let p = c.args.part in
    let x = c.args.table.now in
    let v = c.loop-vertex.vertex in
    added_as g p (λ a b. ReadBefore g p x v a b ⊎ ((a ≡ v) × IsReadOff g p x a b)) (ReadBefore g p x (v + 1)) c.args.words.now c.read_vertex-more.new.words _ (before_more g c.requires.index.shaped.rows_are p c.requires.part x v)
    (added_both g p (ReadBefore g p x v) (λ a b. (a ≡ v) × IsReadOff g p x a b) c.args.words.now c.loop-vertex.words c.read_vertex-more.new.words c.loop-vertex.grows c.read_vertex-more.result c.loop-vertex.invariant c.read_vertex-more.ensures)

pub returns : goal.returns
returns c =
    let g = c.args.g.now in
    let p = c.args.part in
    let x = c.args.table.now in
    let ended = c.loop-vertex-test.false in
    added_as g p (ReadBefore g p x c.loop-vertex.vertex) (IsReadOff g p x) c.args.words.now c.loop-vertex.words c.loop-vertex.grows
    (before_all g c.requires.index.shaped.rows_are p c.requires.part x c.loop-vertex.vertex (omega (arith, ended))) c.loop-vertex.invariant
