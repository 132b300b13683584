use Rattle.std.proofs.Common.{◌≡◌, ℕ, ◌+◌, ◌*◌, ◌<◌, ◌≤◌, ◌⊎◌, inl, inr, set, refl, ◌∙◌, subst, arith}
use Rattle.std.specs.Int.{bit_at}
use Rattle.std.proofs.lemmas.Bool.{cases_eq}
use Rattle.std.proofs.lemmas.List.{length-set}
use Rattle.crew.specs.Seats.{view}
use Rattle.dep_model.specs.declared.graph.Graph.{Graph}
use Rattle.summary_edges.specs.FactMachine.{IsTrueBit}
use Rattle.summary_edges.proofs.WorkerLaws.{opened_still, looked_none, looked_as, looked_both, looked_one}
use Rattle.summary_edges.proofs.worker.look_at.Goals as goal

pub loop-word-init : goal.loop-word-init
loop-word-init c = record {
  board = refl;
  long = refl;
  looked = looked_none c.args.t.now.graph.now (λ w. (c.args.first ≤ w) × (w < c.args.first)) c.args.known.now (view c.args.seat.now) (λ w h. let low = h.0 in let high = h.1 in omega (arith, low, high));
}

pub look-requires-clause-board : goal.look-requires-clause-board
look-requires-clause-board c = c.loop-word.invariant.board ∙ c.requires.board

pub look-requires-clause-word : goal.look-requires-clause-word
look-requires-clause-word c =
    let opened = opened_still c.args.t.now (view c.args.seat.now) (view c.loop-word.seat) c.loop-word.invariant.looked.learned.kept c.requires.opened in
    let long = opened.long in
    let low = c.loop-word-test.true in
    let inside = c.requires.inside in
    omega (arith, long, low, inside)

pub loop-word-preserved : goal.loop-word-preserved
loop-word-preserved c =
    let inv = c.loop-word.invariant in
    let e = c.look.ensures in
    let g = c.args.t.now.graph.now in
    let word = c.loop-word.word in
    let seat = c.loop-word.seat in
    let old = view c.args.seat.now in
    let next = view c.look.new.seat in
    let known = c.loop-word.known in
    let opened = opened_still c.args.t.now old (view seat) inv.looked.learned.kept c.requires.opened in
    let long = opened.long in
    let opening_long = seat.opening_long in
    let seen_long = seat.seen_long in
    let low = c.loop-word-test.true in
    let inside = c.requires.inside in
    let count = inv.long in
    let first_long = c.requires.long in
    let only : (i : ℕ) → bit_at c.look.result i ≡ 1 → IsTrueBit g (64 * word + i) = λ i b. subst (λ (k : Graph). IsTrueBit k (64 * word + i)) opened.graph_is (e.only_true opened.truth i opened.truth_is b) in
    record {
      board = e.board ∙ inv.board;
      long = length-set known word c.look.result ∙ inv.long;
      looked = looked_as g (λ w. ((c.args.first ≤ w) × (w < word)) ⊎ (w ≡ word)) (λ w. (c.args.first ≤ w) × (w < word + 1)) c.args.known.now (set known word c.look.result) old next
          (λ w h. elim (cases_eq w word) [ inl same ↦ inr same | inr other ↦ inl (h.0, (let high = h.1 in omega (arith, high, other))) ])
          (looked_both g (λ w. (c.args.first ≤ w) × (w < word)) (λ w. w ≡ word) c.args.known.now known (set known word c.look.result) old (view seat) next inv.looked
          (looked_one g known (view seat) next word c.look.result e.view (omega (arith, low, inside, count, first_long)) (omega (arith, low, inside, long, opening_long, seen_long)) e.keeps only e.has_opening e.has_seen));
    }

pub returns-clause-board : goal.returns-clause-board
returns-clause-board c = c.loop-word.invariant.board

pub returns-clause-long : goal.returns-clause-long
returns-clause-long c = c.loop-word.invariant.long

pub returns-clause-looked : goal.returns-clause-looked
returns-clause-looked c =
    let ended = c.loop-word-test.false in
    looked_as c.args.t.now.graph.now (λ w. (c.args.first ≤ w) × (w < c.loop-word.word)) (λ w. (c.args.first ≤ w) × (w < c.args.last)) c.args.known.now c.loop-word.known (view c.args.seat.now) (view c.loop-word.seat)
    (λ w h. (h.0, (let high = h.1 in omega (arith, high, ended)))) c.loop-word.invariant.looked
