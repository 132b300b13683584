use Rattle.std.proofs.Common.{◌+◌, ◌<◌, ◌↔◌, ◌⊎◌, ℕ, List, Contains, sym, ◌∙◌, subst, arith}
use Rattle.std.specs.Prelude.{IsTrue}
use Rattle.reaching_defs.specs.RowFlow.{row_has}
use Rattle.reaching_defs.proofs.TargetLemmas.{targets_by, targets_pass, targets_to}
use Rattle.reaching_defs.proofs.from_vertex.add_targets.Goals as goal
use Rattle.reaching_defs.proofs.from_vertex.add_targets.Goals.{then-is_set, else-is_set}

pub collect-requires-clause-below : goal.collect-requires-clause-below
collect-requires-clause-below c = λ (w : ℕ) m.
    let e = c.members.ensures in
    let low = e.below w (subst (λ (x : List ℕ). Contains x w) e.all m) in
    omega (arith, low, c.spread.ensures.size, c.loop-bit.invariant.size)

pub loop-bit-preserved : goal.loop-bit-preserved
loop-bit-preserved c =
    let i = c.loop-bit.invariant in
    let s = c.args.s.now in
    let next = c.args.next.now in
    let base = next.stretch.first in
    let pairs = next.pairs.items in
    let v = c.args.v in
    let k = c.args.first + c.loop-bit.bit in
    let next_k = c.args.first + (c.loop-bit.bit + 1) in
    let old = c.args.targets.now.members in
    let low : c.loop-bit.bit < 64 = c.loop-bit-test.true in
    let here = c.requires.word c.loop-bit.bit low ∙ sym c.is_set.ensures in
    elim c.if-is_set.branch [
      | then-is_set w ↦
          let e = w.members.ensures in
          let reached = w.spread.new.reached.members in
          let t = c.loop-bit.targets.members in
          let new = w.collect.new.targets.members in
          rw (w.reached-is, w.targets-is) (record {
            wide = w.spread.ensures.size;
            size = w.collect.ensures.size ∙ i.size;
            exact = targets_to base s pairs v old c.args.first (k + 1) next_k new (omega arith)
                (targets_by base s pairs v old c.args.first k t new reached (omega arith) i.exact (here ∙ w.if-is_set.true) w.spread.ensures.exact
                (subst (λ (x : List ℕ). (y : ℕ) → Contains new y ↔ (Contains t y ⊎ (Contains x y × IsTrue (row_has s.used (base + y) k)))) e.all w.collect.ensures.exact));
          })
      | else-is_set w ↦ rw (w.reached-is, w.targets-is) (record {
        wide = i.wide;
        size = i.size;
        exact = targets_to base s pairs v old c.args.first (k + 1) next_k c.loop-bit.targets.members (omega arith)
            (targets_pass base s pairs v old c.args.first k c.loop-bit.targets.members (omega arith) i.exact (here ∙ w.if-is_set.false));
      })
    ]

pub returns-clause-exact : goal.returns-clause-exact
returns-clause-exact c = targets_to c.args.next.now.stretch.first c.args.s.now c.args.next.now.pairs.items c.args.v c.args.targets.now.members c.args.first (c.args.first + c.loop-bit.bit) (c.args.first + 64) c.loop-bit.targets.members (omega arith) c.loop-bit.invariant.exact
