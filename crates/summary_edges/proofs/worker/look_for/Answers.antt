use Rattle.std.proofs.Common.{◌+◌, ◌⊎◌, refl, ◌∙◌, arith}
use Rattle.crew.specs.Seats.{view}
use Rattle.matched_paths.specs.EdgeGroups.{group_at}
use Rattle.summary_edges.specs.Workers.{IsReadAmong, IsReadBefore}
use Rattle.summary_edges.proofs.WorkerLaws.{opened_still, looked_none, looked_as, looked_both, before_none, before_more}
use Rattle.summary_edges.proofs.worker.look_for.Goals as goal

pub loop-vertex-init : goal.loop-vertex-init
loop-vertex-init c = record {
  board = refl;
  long = refl;
  looked = looked_none c.args.t.now.graph.now (IsReadBefore c.args.t.now.graph.now c.args.part.range.first c.args.part.range.first) c.args.known.now (view c.args.seat.now) (before_none c.args.t.now.graph.now c.args.part.range.first);
}

pub look_before-requires-clause-board : goal.look_before-requires-clause-board
look_before-requires-clause-board c = c.loop-vertex.invariant.board ∙ c.requires.board

pub look_before-requires-clause-opened : goal.look_before-requires-clause-opened
look_before-requires-clause-opened c = opened_still c.args.t.now (view c.args.seat.now) (view c.loop-vertex.seat) c.loop-vertex.invariant.looked.learned.kept c.requires.opened

pub look_before-requires-clause-long : goal.look_before-requires-clause-long
look_before-requires-clause-long c = c.loop-vertex.invariant.long ∙ c.requires.long

pub loop-vertex-preserved : goal.loop-vertex-preserved
loop-vertex-preserved c =
    let inv = c.loop-vertex.invariant in
    let e = c.look_before.ensures in
    let g = c.args.t.now.graph.now in
    let first = c.args.part.range.first in
    let v = c.loop-vertex.vertex in
    let old = view c.args.seat.now in
    record {
      board = e.board ∙ inv.board;
      long = e.long ∙ inv.long;
      looked = looked_as g (λ w. IsReadBefore g first v w ⊎ IsReadAmong g (group_at c.args.index.now.ends v) w) (IsReadBefore g first (v + 1)) c.args.known.now c.look_before.new.known old (view c.look_before.new.seat)
          (before_more g c.args.index.now c.requires.index first v)
          (looked_both g (IsReadBefore g first v) (IsReadAmong g (group_at c.args.index.now.ends v)) c.args.known.now c.loop-vertex.known c.look_before.new.known old (view c.loop-vertex.seat) (view c.look_before.new.seat) inv.looked e.looked);
    }

pub returns-clause-board : goal.returns-clause-board
returns-clause-board c = c.loop-vertex.invariant.board

pub returns-clause-long : goal.returns-clause-long
returns-clause-long c = c.loop-vertex.invariant.long

pub returns-clause-looked : goal.returns-clause-looked
returns-clause-looked c =
    let g = c.args.t.now.graph.now in
    let first = c.args.part.range.first in
    let ended = c.loop-vertex-test.false in
    looked_as g (IsReadBefore g first c.loop-vertex.vertex) (IsReadBefore g first c.args.part.range.last) c.args.known.now c.loop-vertex.known (view c.args.seat.now) (view c.loop-vertex.seat)
    (λ w h. record { edge = h.edge; among = h.among; from = h.from; to = (let high = h.to in omega (arith, high, ended)); read = h.read }) c.loop-vertex.invariant.looked
