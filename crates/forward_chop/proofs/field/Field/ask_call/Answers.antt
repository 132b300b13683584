use Rattle.std.proofs.Common.{◌⊎◌, ◌||◌, [], ◌∷◌, ◌++◌, get_or, take, sym, subst, List, arith}
use Rattle.std.proofs.lemmas.List.{take_more, take_all}
use Rattle.dep_model.specs.declared.edge.Edge.{Edge}
use Rattle.forward_chop.specs.Fields.{LeavesFrom}
use Rattle.forward_chop.specs.Pairs.{HasAsked}
use Rattle.forward_chop.proofs.FieldLaws.{no_edge, leaves_none, leaves_more}
use Rattle.forward_chop.proofs.PairLaws.{asked_none, asked_as, asked_both}
use Rattle.forward_chop.proofs.field.Field.ask_call.Goals as goal

pub loop-leave-init : goal.loop-leave-init
loop-leave-init c =
    asked_none (LeavesFrom c.args.self.now c.args.base c.args.enter []) c.args.wanted.now c.requires.laid (λ x o h. absurd (leaves_none c.args.self.now c.args.base c.args.enter x o h))

pub ask_leave-more-requires-clause-laid : goal.ask_leave-more-requires-clause-laid
ask_leave-more-requires-clause-laid c = c.loop-leave.invariant.laid

pub loop-leave-preserved : goal.loop-leave-preserved
loop-leave-preserved c =
    let f = c.args.self.now in
    let es = c.args.leaves.now in
    let n = c.loop-leave.leave-index in
    let e = get_or es n no_edge in
    let start = c.args.wanted.now in
    let new = c.ask_leave-more.new.wanted in
    let grows = c.loop-leave.grows || c.ask_leave-more.result in
    let P = LeavesFrom f c.args.base c.args.enter (take n es) in
    let Q = LeavesFrom f c.args.base c.args.enter (e ∷ []) in
    let both = asked_both P Q start c.loop-leave.wanted new c.loop-leave.grows c.ask_leave-more.result c.loop-leave.invariant c.ask_leave-more.ensures in
    let more = asked_as (λ x o. P x o ⊎ Q x o) (LeavesFrom f c.args.base c.args.enter (take n es ++ e ∷ [])) start new grows (leaves_more f c.args.base c.args.enter (take n es) (e ∷ [])) both in
    subst (λ (k : List Edge). HasAsked (LeavesFrom f c.args.base c.args.enter k) start new grows) (sym (take_more es n no_edge c.loop-leave-test.true)) more

pub returns : goal.returns
returns c =
    let es = c.args.leaves.now in
    let n = c.loop-leave.leave-index in
    let ended = c.loop-leave-test.false in
    subst (λ (k : List Edge). HasAsked (LeavesFrom c.args.self.now c.args.base c.args.enter k) c.args.wanted.now c.loop-leave.wanted c.loop-leave.grows) (take_all n es (omega (arith, ended))) c.loop-leave.invariant
