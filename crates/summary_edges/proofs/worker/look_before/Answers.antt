use Rattle.std.proofs.Common.{◌≡◌, ◌⊎◌, List, [], get_or, take, Contains, sym, refl, ◌∙◌, subst, arith}
use Rattle.std.proofs.lemmas.List.{get_or_default, take_more, take_all}
use Rattle.crew.specs.Seats.{view}
use Rattle.dep_model.specs.declared.edge.Edge.{Edge}
use Rattle.dep_model.specs.declared.edge.Label.TheVariants.{Control}
use Rattle.matched_paths.specs.EdgeGroups.{group_at}
use Rattle.matched_paths.proofs.GroupLaws.{ending_is}
use Rattle.summary_edges.specs.Workers.{HasLooked, IsReadAlong, IsReadAmong}
use Rattle.summary_edges.proofs.WorkerLaws.{opened_still, looked_none, looked_as, looked_both, among_none, among_more}
use Rattle.summary_edges.proofs.worker.look_before.Goals as goal

abbrev none : Edge
none = record { from = 0; to = 0; label = Control }

pub loop-edge-init : goal.loop-edge-init
loop-edge-init c = record {
  board = refl;
  long = refl;
  looked = looked_none c.args.t.now.graph.now (IsReadAmong c.args.t.now.graph.now []) c.args.known.now (view c.args.seat.now) (among_none c.args.t.now.graph.now);
}

pub look_along-requires-clause-board : goal.look_along-requires-clause-board
look_along-requires-clause-board c = c.loop-edge.invariant.board ∙ c.requires.board

pub look_along-requires-clause-opened : goal.look_along-requires-clause-opened
look_along-requires-clause-opened c = opened_still c.args.t.now (view c.args.seat.now) (view c.loop-edge.seat) c.loop-edge.invariant.looked.learned.kept c.requires.opened

pub look_along-requires-clause-long : goal.look_along-requires-clause-long
look_along-requires-clause-long c = c.loop-edge.invariant.long ∙ c.requires.long

pub look_along-requires-clause-edge : goal.look_along-requires-clause-edge
look_along-requires-clause-edge c =
    let es = c.of-edges.result.now in
    let n = c.loop-edge.edge-index in
    let low = c.loop-edge-test.true in
    let m = subst (λ (k : List Edge). Contains k (get_or es n none)) (c.of-edges.ensures ∙ c.requires.index.ends c.args.vertex) (n, low, get_or_default es n (get_or es n none) none low) in
    (ending_is c.args.t.now.graph.now.edges c.args.vertex (get_or es n none) m).0

pub loop-edge-preserved : goal.loop-edge-preserved
loop-edge-preserved c =
    let inv = c.loop-edge.invariant in
    let e = c.look_along.ensures in
    let g = c.args.t.now.graph.now in
    let es = c.of-edges.result.now in
    let n = c.loop-edge.edge-index in
    let low = c.loop-edge-test.true in
    let old = view c.args.seat.now in
    record {
      board = e.board ∙ inv.board;
      long = e.long ∙ inv.long;
      looked = subst (λ (k : List Edge). HasLooked g (IsReadAmong g k) c.args.known.now c.look_along.new.known old (view c.look_along.new.seat)) (sym (take_more es n none low))
          (looked_as g (λ w. IsReadAmong g (take n es) w ⊎ IsReadAlong g (get_or es n none) w) (IsReadAmong g _) c.args.known.now c.look_along.new.known old (view c.look_along.new.seat) (among_more g (take n es) (get_or es n none))
          (looked_both g (IsReadAmong g (take n es)) (IsReadAlong g (get_or es n none)) c.args.known.now c.loop-edge.known c.look_along.new.known old (view c.loop-edge.seat) (view c.look_along.new.seat) inv.looked e.looked));
    }

pub returns-clause-board : goal.returns-clause-board
returns-clause-board c = c.loop-edge.invariant.board

pub returns-clause-long : goal.returns-clause-long
returns-clause-long c = c.loop-edge.invariant.long

pub returns-clause-looked : goal.returns-clause-looked
returns-clause-looked c =
    let es = c.of-edges.result.now in
    let n = c.loop-edge.edge-index in
    let ended = c.loop-edge-test.false in
    let all : take n es ≡ group_at c.args.index.now.ends c.args.vertex = take_all n es (omega (arith, ended)) ∙ c.of-edges.ensures in
    subst (λ (k : List Edge). HasLooked c.args.t.now.graph.now (IsReadAmong c.args.t.now.graph.now k) c.args.known.now c.loop-edge.known (view c.args.seat.now) (view c.loop-edge.seat)) all c.loop-edge.invariant.looked
