use Rattle.std.proofs.Common.{ℤ, Option, Some, None, SFits, refl, sym, ap, ◌∙◌, subst, rules}
use Rattle.std.specs.Int.{w128}
use Rattle.std.proofs.lemmas.Int.{to_z-of_z}
use Rattle.c_meaning.specs.Steps.{Point}
use Rattle.c_machine.specs.Runs.{Tested}
use Rattle.c_language.specs.Code.{Fork, ◌⨟◌, is_true, either}
use Rattle.c_meaning.specs.Acts.{picked}
use Rattle.c_machine.specs.Rests.{block_in, block_before, left_code}
use Rattle.c_machine.proofs.PointLemmas.{branched, test_not}
use Rattle.c_machine.proofs.runs.Run.fork.Goals as goal

pub returns-in_ok-add_block-in-Some : goal.returns-in_ok-add_block-in-Some
returns-in_ok-add_block-in-Some c =
    λ p before x h e.
    let k = left_code c.args.self.now.left.items in
    let y : Point = record x { rest = k } in
    let t : Tested p before c.args.id c.args.test.now (Some c.in-Some.value) c.test.new.self y = subst (λ (o : Option ℤ). Tested p before c.args.id c.args.test.now o c.test.new.self y) c.in-Some.is (c.in_ok-value.ensures p before y h) in
    let fits : SFits w128 c.in-Some.value = search rules in
    let same = to_z-of_z w128 c.in-Some.value fits in
    branched p before x c.args.id c.args.test.now (λ v. either (is_true v) (block_in c.args.then.now) (block_in c.args.other.now)) k c.in-Some.value c.chosen.result.now c.test.new.self (record c.test.new.self { left = c.add_block.new.left }) e (ap (λ (v : ℤ). either (is_true v) (block_in c.args.then.now) (block_in c.args.other.now)) (sym same) ∙ sym c.chosen.ensures)
    (c.in_ok-add_block-in-Some.ensures.code ∙ ap (block_before c.chosen.result.now) t.2.rest) refl t

pub returns-in-None : goal.returns-in-None
returns-in-None c =
    λ p before x h e.
    let k = left_code c.args.self.now.left.items in
    let y : Point = record x { rest = k } in
    let t : Tested p before c.args.id c.args.test.now None c.test.new.self y = subst (λ (o : Option ℤ). Tested p before c.args.id c.args.test.now o c.test.new.self y) c.in-None.is (c.in_ok-value.ensures p before y h) in
    test_not p before x (Fork c.args.id c.args.test.now (λ v. either (is_true v) (block_in c.args.then.now) (block_in c.args.other.now)) k) c.args.id c.args.test.now (λ m. either (is_true (picked m)) (block_in c.args.then.now) (block_in c.args.other.now) ⨟ k) k c.test.new.self e refl t
