use Rattle.std.proofs.Common.{◌≤◌, length, sym, ap, ◌∙◌, subst, arith}
use Rattle.slice_engine.proofs.FirstMembers.{AreFirstMembers, none_first, one_more_member, no_more_member, all_members}
use Rattle.slice_engine.proofs.graph.numbers_in.Goals.{then-has+in_ok-push, else-has}
use Rattle.slice_engine.proofs.graph.numbers_in.Goals as goal

pub loop-v-init : goal.loop-v-init
loop-v-init c = subst (AreFirstMembers 0 c.args.set.now) (sym c.new-found.ensures.items) (none_first c.args.set.now)

pub loop-v-preserved : goal.loop-v-preserved
loop-v-preserved c = elim c.if-has.branch [
  | then-has+in_ok-push w ↦
      one_more_member c.loop-v.v c.args.set.now c.loop-v.found.items c.if-has.found.items c.loop-v.invariant (sym c.has.ensures ∙ w.if-has.true) (ap (λ x. x.items) w.found-is ∙ w.in_ok-push.ensures.items)
  | else-has w ↦
      rw (ap (λ x. x.items) w.found-is) (no_more_member c.loop-v.v c.args.set.now c.loop-v.found.items c.loop-v.invariant (sym c.has.ensures ∙ w.if-has.false))
]

pub returns-clause-members : goal.returns-clause-members
returns-clause-members c =
    let past : length c.args.set.now ≤ c.loop-v.v = let behind = c.loop-v-test.false in let end = c.len-v-end.ensures in omega (arith, behind, end) in
    all_members c.loop-v.v c.args.set.now c.loop-v.found.items c.loop-v.invariant past
