use Rattle.std.proofs.Common.{[], ◌∷◌, ◌++◌, get_or, take, sym, subst, List, arith}
use Rattle.std.proofs.lemmas.List.{take_more, take_all}
use Rattle.dep_model.specs.declared.edge.Edge.{Edge}
use Rattle.forward_chop.specs.Outs.{HaveWidened, PairsBy}
use Rattle.forward_chop.proofs.FieldLaws.{no_edge}
use Rattle.forward_chop.proofs.OutLaws.{widened_none, widened_both, by_none, by_more}
use Rattle.forward_chop.proofs.outs.add_leaves.Goals as goal

pub loop-leave-init : goal.loop-leave-init
loop-leave-init c = widened_none (PairsBy c.args.enter []) c.args.outs.now c.requires.order (by_none c.args.enter)

pub loop-leave-preserved : goal.loop-leave-preserved
loop-leave-preserved c =
    let es = c.args.leaves.now in
    let n = c.loop-leave.leave-index in
    let e = get_or es n no_edge in
    let start = c.args.outs.now in
    let more = widened_both (PairsBy c.args.enter (take n es)) (PairsBy c.args.enter (e ∷ [])) (PairsBy c.args.enter (take n es ++ e ∷ [])) start c.loop-leave.outs c.add_leave.new.outs (by_more c.args.enter (take n es) (e ∷ [])) c.loop-leave.invariant c.add_leave.ensures in
    subst (λ (k : List Edge). HaveWidened (PairsBy c.args.enter k) start c.add_leave.new.outs) (sym (take_more es n no_edge c.loop-leave-test.true)) more

pub returns : goal.returns
returns c =
    let es = c.args.leaves.now in
    let n = c.loop-leave.leave-index in
    let ended = c.loop-leave-test.false in
    subst (λ (k : List Edge). HaveWidened (PairsBy c.args.enter k) c.args.outs.now c.loop-leave.outs) (take_all n es (omega (arith, ended))) c.loop-leave.invariant
