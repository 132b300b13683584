use Rattle.std.proofs.Common.{◌≡◌, List, ◌∷◌, sym, ap, ◌∙◌, ◌+◌, arith}
use Rattle.c_tree.specs.declared.statement.Statement.{Statement}
use Rattle.c_language.specs.Code.{code_of}
use Rattle.c_machine.specs.declared.rests.Rest.TheVariants as rest
use Rattle.c_machine.specs.Rests.{left_code, list_before}
use Rattle.c_machine.specs.Sizes.{left_size, list_size}
use Rattle.c_machine.proofs.RestLemmas.{left-push}
use Rattle.c_machine.proofs.SizeLemmas.{left_size-push}
use Rattle.c_machine.proofs.runs.add_first.Goals as goal

pub returns-in_ok-add_statement-in-Some-clause-code : goal.returns-in_ok-add_statement-in-Some-clause-code
returns-in_ok-add_statement-in-Some-clause-code c =
    let k = left_code c.args.left.now.items in
    c.in_ok-add_statement-in-Some.ensures.code
    ∙ ap (code_of c.in-Some.first.now) (ap left_code c.in_ok-push-in-Some.ensures.items ∙ left-push c.args.left.now.items (rest.List c.in-Some.behind))
    ∙ ap (λ (ss : List Statement). list_before ss k) (sym c.in-Some.ensures.cases.0)

pub returns-in_ok-add_statement-in-Some-clause-size : goal.returns-in_ok-add_statement-in-Some-clause-size
returns-in_ok-add_statement-in-Some-clause-size c =
    let added = c.in_ok-add_statement-in-Some.ensures.size in
    let pushed : left_size c.push.new.self.items ≡ left_size c.args.left.now.items + list_size c.in-Some.behind.now = ap left_size c.in_ok-push-in-Some.ensures.items ∙ left_size-push c.args.left.now.items (rest.List c.in-Some.behind) in
    let whole : list_size c.args.list.now ≡ list_size (c.in-Some.first.now ∷ c.in-Some.behind.now) = ap list_size c.in-Some.ensures.cases.0 in
    omega (arith, added, pushed, whole)
