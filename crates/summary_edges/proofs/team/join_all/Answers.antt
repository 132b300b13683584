use Rattle.std.proofs.Common.{◌≡◌, ◌+◌, Some, ap, ◌∙◌, arith}
use Rattle.std.proofs.lemmas.List.Elements.{All-pop}
use Rattle.crew.specs.declared.view.View.{View}
use Rattle.crew.specs.Seats.{view, id_of}
use Rattle.summary_edges.specs.declared.fact_truth.FactTruth.{FactTruth}
use Rattle.summary_edges.specs.Teams.{IsOnBoard}
use Rattle.summary_edges.proofs.TeamLaws.{back_more, gather_begins, gather_goes}
use Rattle.summary_edges.proofs.team.join_all.Goals as goal

pub loop-other-init : goal.loop-other-init
loop-other-init c =
    let last = c.in-Some.last in
    let given = c.args.all.items in
    let left = c.pop.new.self.items in
    let items = c.in-Some.ensures.items in
    let split = All-pop (IsOnBoard (id_of c.args.board.now)) given left (Some last) items c.requires.board in
    let more = back_more left given last items in
    let all = c.requires.parts in
    record {
      board = split.1;
      parts = omega (arith, more, all);
      each = split.0;
      gathered = gather_begins given left last items;
    }

pub join-requires : goal.join-requires
join-requires c =
    let at = c.loop-other in
    let split = All-pop (IsOnBoard (id_of c.args.board.now)) at.all.items c.pop-in-loop-other.new.self.items (Some c.in-Some-pop.other) c.in-Some-pop.ensures.items at.invariant.each in
    record { board = (at.invariant.board, split.1) }

pub loop-other-preserved : goal.loop-other-preserved
loop-other-preserved c =
    let at = c.loop-other in
    let inv = at.invariant in
    let other = c.in-Some-pop.other in
    let left = c.pop-in-loop-other.new.self.items in
    let items = c.in-Some-pop.ensures.items in
    let split = All-pop (IsOnBoard (id_of c.args.board.now)) at.all.items left (Some other) items inv.each in
    let more = back_more left at.all.items other items in
    let e = c.join.ensures in
    let spare : (view c.join.new.seat).spare ≡ (view at.seat).spare + (view other.0).spare + 1 = ap (λ (v : View FactTruth). v.spare) e.view in
    let all = inv.parts in
    record {
      board = e.board ∙ inv.board;
      parts = omega (arith, more, spare, all);
      each = split.0;
      gathered = gather_goes c.args.all.items at.all.items left at.seat c.join.new.seat at.finished other inv.gathered items e.board e.view e.keeps;
    }

pub returns-then-finished-clause-finished : goal.returns-then-finished-clause-finished
returns-then-finished-clause-finished c = λ t first all. (c.loop-other.invariant.gathered t first all).1.finished c.if-finished.true
