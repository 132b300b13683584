use Rattle.std.proofs.Common.{refl, ◌∙◌, subst}
use Rattle.crew.specs.Seats.{view}
use Rattle.summary_edges.specs.Steps.{HaveGrown}
use Rattle.summary_edges.proofs.GoingOnLaws.{goes_down}
use Rattle.summary_edges.proofs.SpreadLaws.{one_shape, shapes_follow}
use Rattle.summary_edges.proofs.WorkerLaws.{opened_still, learned_none, learned_both}
use Rattle.summary_edges.proofs.worker.go_to_end.Goals as goal

pub loop-part-init : goal.loop-part-init
loop-part-init c = record {
  board = refl;
  learned = learned_none (view c.args.seat.now);
  shape = one_shape c.args.table.now c.requires.going.behind.filled.filling.room.table;
  long = refl;
  going = c.requires.going;
}

pub go_once-requires-clause-board : goal.go_once-requires-clause-board
go_once-requires-clause-board c = c.loop-part.invariant.board ∙ c.requires.board

pub go_once-requires-clause-opened : goal.go_once-requires-clause-opened
go_once-requires-clause-opened c = opened_still c.args.t.now (view c.args.seat.now) (view c.loop-part.seat) c.loop-part.invariant.learned.kept c.requires.opened

pub go_once-requires-clause-drawn : goal.go_once-requires-clause-drawn
go_once-requires-clause-drawn c =
    let d = c.requires.drawn in
    (d.0, d.1, c.loop-part.invariant.learned.kept.drawn d.0 d.2, d.3)

pub go_once-requires-clause-going : goal.go_once-requires-clause-going
go_once-requires-clause-going c = c.loop-part.invariant.going

pub loop-part-smaller : goal.loop-part-smaller
loop-part-smaller c =
    goes_down c.args.known.now c.loop-part.known c.go_once.new.known c.loop-part.invariant.long (subst (HaveGrown c.loop-part.known c.go_once.new.known) c.loop-part-test.true c.go_once.ensures.grown)

pub loop-part-preserved : goal.loop-part-preserved
loop-part-preserved c =
    let inv = c.loop-part.invariant in
    let e = c.go_once.ensures in
    record {
      board = e.board ∙ inv.board;
      learned = learned_both (view c.args.seat.now) (view c.loop-part.seat) (view c.go_once.new.seat) inv.learned e.learned;
      shape = shapes_follow c.args.table.now c.loop-part.table c.go_once.new.table inv.shape e.room;
      long = e.grown.long ∙ inv.long;
      going = e.going;
    }

pub returns-clause-board : goal.returns-clause-board
returns-clause-board c = c.go_once.ensures.board ∙ c.loop-part.invariant.board

pub returns-clause-learned : goal.returns-clause-learned
returns-clause-learned c = learned_both (view c.args.seat.now) (view c.loop-part.seat) (view c.go_once.new.seat) c.loop-part.invariant.learned c.go_once.ensures.learned

pub returns-clause-room : goal.returns-clause-room
returns-clause-room c = shapes_follow c.args.table.now c.loop-part.table c.go_once.new.table c.loop-part.invariant.shape c.go_once.ensures.room

pub returns-clause-copy : goal.returns-clause-copy
returns-clause-copy c = c.go_once.ensures.going.copy
