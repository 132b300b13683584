use Rattle.std.proofs.Common.{◌≡◌, ℤ, Option, Some, None, SFits, refl, sym, ap, ◌∙◌, subst, rules}
use Rattle.std.specs.Int.{w128}
use Rattle.std.proofs.lemmas.Int.{to_z-of_z}
use Rattle.c_meaning.specs.Steps.{Point}
use Rattle.c_machine.specs.Runs.{Tested}
use Rattle.c_language.specs.Code.{Loop, ◌⨟◌, is_true, either}
use Rattle.c_meaning.specs.Acts.{picked}
use Rattle.c_machine.specs.Rests.{act_code, block_before, list_before, left_code}
use Rattle.c_machine.specs.declared.rests.Rest.TheVariants as rest
use Rattle.c_machine.proofs.RestLemmas.{left-push}
use Rattle.c_machine.proofs.PointLemmas.{test_not}
use Rattle.c_machine.proofs.RunLemmas.{turn_begun, turn_over}
use Rattle.c_machine.proofs.runs.Run.turn.Goals as goal

pub returns-in_ok-add_block-in-Some : goal.returns-in_ok-add_block-in-Some
returns-in_ok-add_block-in-Some c =
    λ p before x b h e ae does.
    let k = left_code c.args.self.now.left.items in
    let y : Point = record x { rest = k } in
    let t : Tested p before c.args.id c.args.test.now (Some c.in-Some.value) c.test.new.self y = subst (λ (o : Option ℤ). Tested p before c.args.id c.args.test.now o c.test.new.self y) c.in-Some.is (c.in_ok-value.ensures p before y h) in
    let fits : SFits w128 c.in-Some.value = search rules in
    let same = to_z-of_z w128 c.in-Some.value fits in
    let l0 = c.test.new.self.left.items in
    let l1 = c.push.new.self.items in
    let l2 = c.push-then-is_met.new.self.items in
    let act = act_code c.args.statement.now k in
    let first : left_code l1 ≡ act = ap left_code c.in_ok-push-in-Some.ensures.items ∙ left-push l0 (rest.Act c.args.statement) ∙ ap (act_code c.args.statement.now) t.2.rest in
    let second : left_code l2 ≡ list_before c.args.step.now act = ap left_code c.in_ok-push-in-Some-2.ensures.items ∙ left-push l1 (rest.List c.args.step) ∙ ap (list_before c.args.step.now) first in
    turn_begun p before c.test.new.self c.add_block.new.left x c.args.id c.args.test.now b k act c.in-Some.value c.args.body.now c.args.step.now e ae does (ap is_true (sym same) ∙ sym c.is_met.ensures ∙ c.if-is_met.true)
    (c.in_ok-add_block-in-Some.ensures.code ∙ ap (block_before c.args.body.now) second) t

pub returns-else-is_met : goal.returns-else-is_met
returns-else-is_met c =
    λ p before x b h e ae does.
    let k = left_code c.args.self.now.left.items in
    let y : Point = record x { rest = k } in
    let t : Tested p before c.args.id c.args.test.now (Some c.in-Some.value) c.test.new.self y = subst (λ (o : Option ℤ). Tested p before c.args.id c.args.test.now o c.test.new.self y) c.in-Some.is (c.in_ok-value.ensures p before y h) in
    let fits : SFits w128 c.in-Some.value = search rules in
    let same = to_z-of_z w128 c.in-Some.value fits in
    turn_over p before c.test.new.self x c.args.id c.args.test.now b k c.in-Some.value e (ap is_true (sym same) ∙ sym c.is_met.ensures ∙ c.if-is_met.false) t

pub returns-in-None : goal.returns-in-None
returns-in-None c =
    λ p before x b h e ae does.
    let k = left_code c.args.self.now.left.items in
    let y : Point = record x { rest = k } in
    let t : Tested p before c.args.id c.args.test.now None c.test.new.self y = subst (λ (o : Option ℤ). Tested p before c.args.id c.args.test.now o c.test.new.self y) c.in-None.is (c.in_ok-value.ensures p before y h) in
    test_not p before x (Loop c.args.id c.args.test.now b k) c.args.id c.args.test.now (λ m. either (is_true (picked m)) (b ⨟ Loop c.args.id c.args.test.now b k) k) k c.test.new.self e refl t
