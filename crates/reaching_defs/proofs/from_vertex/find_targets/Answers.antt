use Rattle.std.proofs.Common.{◌≤◌, ◌*◌, [], refl, arith}
use Rattle.bit_rows.specs.Tables.{the_set}
use Rattle.reaching_defs.proofs.TargetLemmas.{words_of, bit_is, member_below, none_in, word_adds, word_passes, words_end}
use Rattle.reaching_defs.proofs.from_vertex.find_targets.Goals as goal
use Rattle.reaching_defs.proofs.from_vertex.find_targets.Goals.{then-word-ne0, else-word-ne0}

pub add_targets-requires-clause-word : goal.add_targets-requires-clause-word
add_targets-requires-clause-word c =
    let e = c.words-word-items.ensures in
    bit_is c.args.s.now.defined.bits c.words-word-items.result.now (the_set c.args.s.now.defined c.args.v) (words_of e.len e.holds e.clean) c.loop-at.at

pub add_targets-requires-clause-in_row : goal.add_targets-requires-clause-in_row
add_targets-requires-clause-in_row c =
    let e = c.words-word-items.ensures in
    member_below c.args.s.now.defined.bits c.words-word-items.result.now (the_set c.args.s.now.defined c.args.v) (words_of e.len e.holds e.clean)

pub loop-at-preserved : goal.loop-at-preserved
loop-at-preserved c =
    let i = c.loop-at.invariant in
    let e = c.words-word-items.ensures in
    let bits = c.args.s.now.defined.bits in
    let words = c.words-word-items.result.now in
    let row = the_set c.args.s.now.defined c.args.v in
    let at = c.loop-at.at in
    elim c.if-word-ne0.branch [
      | then-word-ne0 w ↦
          let a = w.add_targets.ensures in
          rw (w.reached-is, w.targets-is) (record {
            wide = a.wide;
            size = a.size;
            exact = word_adds c.args.next.now.stretch.first c.args.s.now c.args.next.now.pairs.items c.args.v [] at c.loop-at.targets.members w.add_targets.new.targets.members i.exact a.exact;
          })
      | else-word-ne0 w ↦
          rw (w.reached-is, w.targets-is) (record {
            wide = i.wide;
            size = i.size;
            exact = word_passes c.args.next.now.stretch.first c.args.s.now c.args.next.now.pairs.items c.args.v [] at c.loop-at.targets.members i.exact (λ k. none_in bits words row (words_of e.len e.holds e.clean) at k w.if-word-ne0.false);
          })
    ]

pub returns-clause-exact : goal.returns-clause-exact
returns-clause-exact c =
    let e = c.words-word-items.ensures in
    let bits = c.args.s.now.defined.bits in
    let words = c.words-word-items.result.now in
    let row = the_set c.args.s.now.defined c.args.v in
    let end : bits ≤ 64 * c.loop-at.at = omega (arith, e.len) in
    words_end c.args.next.now.stretch.first c.args.s.now c.args.next.now.pairs.items c.args.v [] bits c.loop-at.at c.loop-at.targets.members refl c.loop-at.invariant.exact end (member_below bits words row (words_of e.len e.holds e.clean))
