use Rattle.std.proofs.Common.{◌++◌, ap, ◌∙◌}
use Rattle.c_language.proofs.Turns.{each_turn}
use Rattle.dep_model.specs.Doings.{body_doings}
use Rattle.vertex_layout.specs.OwnStatements.{own_doings, done}
use Rattle.vertex_layout.proofs.OwnForms.{each_function}
use Rattle.vertex_layout.proofs.statements.functions.Goals as goal

pub loop-function-preserved : goal.loop-function-preserved
loop-function-preserved c =
    let l = c.loop-function in
    each_turn each_function c.args.list.now l.function-index c.function-item.result (own_doings c.args.found.now.items) (own_doings l.found.items) (own_doings c.statements.new.found.items)
    c.loop-function-test.true c.function-item.is l.invariant (c.in_ok-statements.ensures ∙ ap (λ b. own_doings l.found.items ++ done (body_doings b)) c.as_slice.ensures)
