use Rattle.std.proofs.Common.{◌≡◌, ◌++◌, ◌<◌, List, length, map, get_or, ap, ◌∙◌, subst, arith}
use Rattle.c_tree.specs.declared.program.Function.{Function}
use Rattle.c_tree.specs.declared.program.Program.{Program}
use Rattle.dep_model.specs.Doings.{body_doings}
use Rattle.points_to.specs.Moves.{told, storing, storing_below}
use Rattle.points_to.proofs.RoundLemmas.{function_turn}
use Rattle.points_to.proofs.moves.moves_of.Goals as goal

pub loop-f-preserved : goal.loop-f-preserved
loop-f-preserved c =
    let p = c.args.p.now in
    let i = c.loop-f.f in
    let g = c.function-item.result in
    let list : c.as_slice-function-items.result.now ≡ p.functions = c.as_slice-function-items.ensures in
    let low : i < length p.functions = subst (λ (fs : List Function). i < length fs) list c.loop-f-test.true in
    function_turn p i g c.statements.new.moves.items (map told c.loop-f.moves.items) low (c.function-item.is ∙ ap (λ (fs : List Function). get_or fs i g) list) c.loop-f.invariant
    (subst (λ (q : Program). map told c.statements.new.moves.items ≡ map told c.loop-f.moves.items ++ storing q i (body_doings g.body)) c.requires.effects
    (subst (λ b. map told c.statements.new.moves.items ≡ map told c.loop-f.moves.items ++ storing c.args.effects.now i (body_doings b)) c.as_slice.ensures c.in_ok-statements.ensures))

pub returns : goal.returns
returns c =
    let p = c.args.p.now in
    let list = ap (λ (fs : List Function). length fs) c.as_slice-function-items.ensures in
    let most = c.loop-f.auto.f-end in
    let done = c.loop-f-test.false in
    let end : c.loop-f.f ≡ length p.functions = omega (arith, list, most, done) in
    subst (λ n. map told c.loop-f.moves.items ≡ storing_below p n) end c.loop-f.invariant
