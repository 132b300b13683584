use Rattle.std.proofs.Common.{◌≤◌, ◌⊎◌, inl, inr, ◌∙◌, ap, ◌++◌, length, arith}
use Rattle.dep_model.specs.declared.edge.Edge.{Edge}
use Rattle.dep_model.specs.declared.edge.Label.TheVariants.{Control}
use Rattle.pdg.proofs.EdgeLess.{told_less, told_equal, told_greater}
use Rattle.pdg.proofs.MergeLemmas.{left_pushed, both_pushed, right_pushed, rest, all_ascend, all_exact}
use Rattle.pdg.proofs.merging.merge.Goals as goal
use Rattle.pdg.proofs.merging.merge.Goals.{then-loop-i-test+else-j-right, else-loop-i-test}

abbrev none : Edge
none = record { from = 0; to = 0; label = Control }

pub loop-i-preserved-in-Less : goal.loop-i-preserved-in-Less
loop-i-preserved-in-Less c =
    let l = c.loop-i in
    let i = l.invariant in
    let told = told_less _ _ _ c.cmp.ensures c.in-Less.is in
    let pushed = left_pushed c.args.left.now c.args.right.now l.i l.j none c.loop-i-test.true c.if-j-right.true l.all.items i.merged told in
    record {
      merged = rw c.in_ok-push-in-Less.ensures.items pushed;
      left_in = omega (arith, c.loop-i-test.true);
      right_in = i.right_in;
    }

pub loop-i-preserved-in-Equal : goal.loop-i-preserved-in-Equal
loop-i-preserved-in-Equal c =
    let l = c.loop-i in
    let i = l.invariant in
    let told = told_equal _ _ _ c.cmp.ensures c.in-Equal.is in
    let pushed = both_pushed c.args.left.now c.args.right.now l.i l.j none c.loop-i-test.true c.if-j-right.true l.all.items i.merged told in
    record {
      merged = rw c.in_ok-push-in-Equal.ensures.items pushed;
      left_in = omega (arith, c.loop-i-test.true);
      right_in = omega (arith, c.if-j-right.true);
    }

pub loop-i-preserved : goal.loop-i-preserved
loop-i-preserved c =
    let l = c.loop-i in
    let i = l.invariant in
    let told = told_greater _ _ _ c.cmp.ensures c.in-Greater.is in
    let pushed = right_pushed c.args.left.now c.args.right.now l.i l.j none c.loop-i-test.true c.if-j-right.true l.all.items i.merged told in
    record {
      merged = rw c.in_ok-push-in-Greater.ensures.items pushed;
      left_in = i.left_in;
      right_in = omega (arith, c.if-j-right.true);
    }

pub returns-clause-exact : goal.returns-clause-exact
returns-clause-exact c =
    all_exact c.args.left.now c.args.right.now c.loop-i.i c.loop-i.j c.loop-i.all.items _ c.loop-i.invariant.merged
    (c.in_ok-extend_from_slice-2.ensures.items ∙ ap (λ xs. xs ++ rest c.args.left.now c.args.right.now c.args.right.now c.loop-i.j) c.in_ok-extend_from_slice.ensures.items)

pub returns-clause-ascending : goal.returns-clause-ascending
returns-clause-ascending c =
    let end : (length c.args.left.now ≤ c.loop-i.i) ⊎ (length c.args.right.now ≤ c.loop-i.j) = elim c.loop-i-test.branch [
      | then-loop-i-test+else-j-right w ↦ inr (omega (arith, w.if-j-right.false))
      | else-loop-i-test w ↦ inl (omega (arith, w.loop-i-test.false))
    ] in
    all_ascend c.args.left.now c.args.right.now c.loop-i.i c.loop-i.j c.loop-i.all.items _ c.loop-i.invariant.merged
    (c.in_ok-extend_from_slice-2.ensures.items ∙ ap (λ xs. xs ++ rest c.args.left.now c.args.right.now c.args.right.now c.loop-i.j) c.in_ok-extend_from_slice.ensures.items) end
