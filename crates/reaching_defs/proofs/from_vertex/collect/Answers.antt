use Rattle.std.proofs.Common.{◌≡◌, ◌+◌, ℕ, get_or, sym, ◌∙◌, arith}
use Rattle.std.proofs.lemmas.List.{get_or_default}
use Rattle.reaching_defs.specs.RowFlow.{row_has}
use Rattle.reaching_defs.proofs.ListingLemmas.{at_place}
use Rattle.reaching_defs.proofs.TargetLemmas.{collect_adds, collect_skips, collect_ends}
use Rattle.reaching_defs.proofs.from_vertex.collect.Goals as goal
use Rattle.reaching_defs.proofs.from_vertex.collect.Goals.{then-has, else-has}

pub overflow_add-base : goal.overflow_add-base
overflow_add-base c =
    let u : ℕ = get_or c.args.reached.now c.loop-w.w-index 0 in
    omega (arith, c.requires.few, c.requires.below u (at_place c.args.reached.now c.loop-w.w-index c.loop-w-test.true))

pub has-requires-clause-row_in : goal.has-requires-clause-row_in
has-requires-clause-row_in c =
    let u : ℕ = get_or c.args.reached.now c.loop-w.w-index 0 in
    omega (arith, c.requires.rows, c.requires.below u (at_place c.args.reached.now c.loop-w.w-index c.loop-w-test.true))

pub add-requires : goal.add-requires
add-requires c =
    let u : ℕ = get_or c.args.reached.now c.loop-w.w-index 0 in
    omega (arith, c.loop-w.invariant.size, c.requires.below u (at_place c.args.reached.now c.loop-w.w-index c.loop-w-test.true))

pub loop-w-preserved : goal.loop-w-preserved
loop-w-preserved c =
    let i = c.loop-w.invariant in
    let reached = c.args.reached.now in
    let at = c.loop-w.w-index in
    let u : ℕ = get_or reached at 0 in
    let is : get_or reached at u ≡ u = get_or_default reached at u 0 c.loop-w-test.true in
    elim c.if-has.branch [
      | then-has w ↦ rw w.targets-is (record {
        size = w.add.ensures.bound ∙ i.size;
        exact = collect_adds reached at u c.loop-w-test.true is c.args.targets.now.members c.loop-w.targets.members (λ w. row_has c.args.used.now (c.args.base + w) c.args.location) i.exact (sym c.has.ensures ∙ w.if-has.true) w.add.new.self.members w.add.ensures.exact;
      })
      | else-has w ↦ rw w.targets-is (record {
        size = i.size;
        exact = collect_skips reached at u c.loop-w-test.true is c.args.targets.now.members c.loop-w.targets.members (λ w. row_has c.args.used.now (c.args.base + w) c.args.location) i.exact (sym c.has.ensures ∙ w.if-has.false);
      })
    ]

pub returns-clause-exact : goal.returns-clause-exact
returns-clause-exact c = collect_ends c.args.reached.now c.args.targets.now.members c.loop-w.targets.members (λ w. row_has c.args.used.now (c.args.base + w) c.args.location) c.loop-w.w-index (omega arith) c.loop-w.invariant.exact
