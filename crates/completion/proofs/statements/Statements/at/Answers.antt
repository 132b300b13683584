use Rattle.std.proofs.Common.{◌∙◌, map, ap}
use Rattle.completion.specs.Rows.{row}
use Rattle.completion.specs.Numbered.{first_of, stated}
use Rattle.completion.proofs.StatementLaws.{first_is}
use Rattle.completion.proofs.statements.Statements.at.Goals as goal

pub returns : goal.returns
returns c = λ p are.
    let f = c.args.function in
    let id = c.args.id in
    c.first_of_function.ensures ∙ ap (λ os. first_of f (map stated os)) c.row.ensures ∙ ap (λ rows. first_of f (map stated (row rows id))) c.as_slice.ensures.value ∙ ap (first_of f) (are id) ∙ first_is p f id
