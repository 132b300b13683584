use Rattle.std.proofs.Common.{◌≤◌, ◌≡◌, ◌≢◌, ◌+◌, ◌-◌, ◌*◌, inl, inr, refl, sym, ◌∙◌, subst, arith}
use Rattle.std.specs.Prelude.{slice_index}
use Rattle.std.specs.Int.{bit_at}
use Rattle.std.proofs.lemmas.Bool.{cases_eq}
use Rattle.crew.specs.Seats.{view}
use Rattle.crew.specs.SharedWords.{Holds, bit}
use Rattle.summary_edges.proofs.WorkerLaws.{opened_still, learned_none, learned_both, may_still, gain_bits}
use Rattle.summary_edges.proofs.worker.publish_gain.Goals as goal

pub loop-word-init : goal.loop-word-init
loop-word-init c = record {
  board = refl;
  learned = learned_none (view c.args.seat.now);
  knows = λ w i from to few set_ lacks. absurd (omega (arith, from, to));
}

pub publish_word-requires-clause-board : goal.publish_word-requires-clause-board
publish_word-requires-clause-board c = c.loop-word.invariant.board ∙ c.requires.board

pub publish_word-requires-clause-opened : goal.publish_word-requires-clause-opened
publish_word-requires-clause-opened c = opened_still c.args.t.now (view c.args.seat.now) (view c.loop-word.seat) c.loop-word.invariant.learned.kept c.requires.opened

pub publish_word-requires-clause-inside : goal.publish_word-requires-clause-inside
publish_word-requires-clause-inside c = let low = c.loop-word-test.true in let inside = c.requires.inside in omega (arith, low, inside)

pub publish_word-requires-clause-may : goal.publish_word-requires-clause-may
publish_word-requires-clause-may c = λ i few b.
    let word = c.loop-word.word in
    let from : c.args.part.first_word ≤ c.loop-word.word = omega arith in
    let q = (gain_bits (slice_index c.args.known.now word) (slice_index c.args.before.now (word - c.args.part.first_word)) i (c.type_inv.before (word - c.args.part.first_word)).fits few).0 b in
    may_still c.args.t.now.graph.now c.requires.shaped c.args.t.now.agenda.now (view c.args.seat.now) (view c.loop-word.seat) (64 * word + i) c.loop-word.invariant.learned
    (c.requires.may word i from c.loop-word-test.true few q.0 q.1)

pub loop-word-preserved : goal.loop-word-preserved
loop-word-preserved c =
    let inv = c.loop-word.invariant in
    let e = c.publish_word.ensures in
    let word = c.loop-word.word in
    let first = c.args.part.first_word in
    record {
      board = e.board ∙ inv.board;
      learned = learned_both (view c.args.seat.now) (view c.loop-word.seat) (view c.publish_word.new.seat) inv.learned e.learned;
      knows = λ w i from to few set_ lacks. elim (cases_eq w word) [
        | inl same ↦ (
            let set_here : bit_at (slice_index c.args.known.now word) i ≡ 1 = subst (λ j. bit c.args.known.now j i ≡ 1) same set_ in
            let lacks_here : bit_at (slice_index c.args.before.now (word - first)) i ≢ 1 = subst (λ j. bit c.args.before.now (j - first) i ≢ 1) same lacks in
            subst (λ j. Holds (view c.publish_word.new.seat).seen (64 * j + i)) (sym same)
            (e.knows i few ((gain_bits (slice_index c.args.known.now word) (slice_index c.args.before.now (word - first)) i (c.type_inv.before (word - first)).fits few).1 (set_here, lacks_here))))
        | inr other ↦ e.learned.kept.seen (64 * w + i) (inv.knows w i from (omega (arith, to, other)) few set_ lacks)
      ];
    }

pub returns-clause-board : goal.returns-clause-board
returns-clause-board c = c.loop-word.invariant.board

pub returns-clause-learned : goal.returns-clause-learned
returns-clause-learned c = c.loop-word.invariant.learned

pub returns-clause-knows : goal.returns-clause-knows
returns-clause-knows c = λ w i from to few set_ lacks. let ended = c.loop-word-test.false in c.loop-word.invariant.knows w i from (omega (arith, to, ended)) few set_ lacks
