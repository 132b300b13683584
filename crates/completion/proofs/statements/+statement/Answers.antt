use Rattle.dep_model.specs.Doings.{doings}
use Rattle.completion.specs.Numbered.{own_doings, inner_doings}
use Rattle.completion.proofs.StatementLaws.{gains_both, whole}
use Rattle.completion.proofs.statements.+statement.Goals as goal

pub add_statement-returns : goal.add_statement-returns
add_statement-returns t c =
    gains_both c.args.function c.args.rows.now.items c.add_own.new.rows.items c.add_inner.new.rows.items
    (own_doings c.args.statement.now) (inner_doings c.args.statement.now) (doings c.args.statement.now)
    c.in_ok-add_own.ensures c.in_ok-add_inner.ensures (whole c.args.statement.now)
