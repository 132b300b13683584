use Rattle.std.proofs.Common.{ap, ◌∙◌, ◌++◌}
use Rattle.graph_text.specs.RowWalk.{function_rows}
use Rattle.graph_text.proofs.RowStarts.{walked_is_told}
use Rattle.graph_text.proofs.rows.rows_of.Goals as goal

pub returns : goal.returns
returns c =
    c.in_ok-in_functions.ensures ∙ ap (λ xs. xs ++ function_rows c.args.p.now c.as_slice.result.now) c.new-rows.ensures.items ∙ ap (function_rows c.args.p.now) c.as_slice.ensures ∙ walked_is_told c.args.p.now c.args.p.now.functions
