use Rattle.std.proofs.Common.{◌≡◌, ◌<◌, List, length, get_or, ap, ◌∙◌, subst, arith}
use Rattle.c_tree.specs.declared.program.Function.{Function}
use Rattle.dep_model.specs.Doings.{body_doings}
use Rattle.mod_ref.specs.Own.{IsOwn, IsAdded}
use Rattle.mod_ref.proofs.OwnLaws.{own_turn}
use Rattle.mod_ref.proofs.own.find.Goals as goal

pub loop-f-preserved : goal.loop-f-preserved
loop-f-preserved c =
    let p = c.args.p.now in
    let i = c.loop-f.f in
    let g = c.function-item.result in
    let list : c.as_slice-function-items.result.now ≡ p.functions = c.as_slice-function-items.ensures in
    let low : i < length p.functions = subst (λ (fs : List Function). i < length fs) list c.loop-f-test.true in
    own_turn p c.args.t.now i g c.loop-f.own c.statements.new.self low (c.function-item.is ∙ ap (λ (fs : List Function). get_or fs i g) list) c.loop-f.invariant
    (subst (λ b. IsAdded i (body_doings b) c.loop-f.own c.statements.new.self) c.as_slice.ensures c.in_ok-statements.ensures.added)

pub returns : goal.returns
returns c =
    let p = c.args.p.now in
    let list = ap (λ (fs : List Function). length fs) c.as_slice-function-items.ensures in
    let most = c.loop-f.auto.f-end in
    let done = c.loop-f-test.false in
    let end : c.loop-f.f ≡ length p.functions = omega (arith, list, most, done) in
    subst (λ n. IsOwn p c.args.t.now n c.loop-f.own) end c.loop-f.invariant
