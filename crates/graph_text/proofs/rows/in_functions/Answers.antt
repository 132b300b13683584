use Rattle.std.proofs.Common.{◌++◌, ap, ◌∙◌}
use Rattle.c_language.proofs.Turns.{each_turn}
use Rattle.graph_text.specs.RowWalk.{body_rows}
use Rattle.graph_text.proofs.RowLemmas.{each_function}
use Rattle.graph_text.proofs.rows.in_functions.Goals as goal

pub loop-function-preserved : goal.loop-function-preserved
loop-function-preserved c =
    each_turn (each_function c.args.p.now) c.args.list.now c.loop-function.function-index c.function-item.result c.args.rows.now.items c.loop-function.rows.items c.among.new.rows.items c.loop-function-test.true c.function-item.is c.loop-function.invariant (c.in_ok-among.ensures ∙ ap (λ b. c.loop-function.rows.items ++ body_rows c.args.p.now b) c.as_slice.ensures)
