use Rattle.std.proofs.Common.{sym, ◌∙◌}
use Rattle.c_types_rules.specs.Walks.{NamesBroken, NamesFirst}
use Rattle.c_types_rules.proofs.TextLaws.{text_kept, text_broken, text_broken_first, text_lacks_main}
use Rattle.c_types_rules.proofs.WalkSteps.{passes_on}
use Rattle.c_types_rules.proofs.rules.check_rules.Goals as goal

pub returns-in_err-items-clause-broken : goal.returns-in_err-items-clause-broken
returns-in_err-items-clause-broken c =
    passes_on (NamesBroken c.args.raw.now) c.in_err-items.field-0.0 c.from_residual-in_err-items.result c.from_residual-in_err-items.ensures.1
    (text_broken c.args.raw.now c.in_ok-tables.tables c.in_ok-tables.ensures.text c.in_ok-tables.ensures.scope c.as_slice.result.now c.as_slice.ensures c.items.new.tables c.in_err-items.field-0.0 c.in_err-items.ensures)

pub returns-then-has_main-clause-kept : goal.returns-then-has_main-clause-kept
returns-then-has_main-clause-kept c =
    text_kept c.args.raw.now c.in_ok-tables.tables c.in_ok-tables.ensures.text c.in_ok-tables.ensures.scope c.as_slice.result.now c.as_slice.ensures c.items.new.tables c.in_ok-items.ensures
    (sym c.has_main.ensures ∙ c.if-has_main.true)

pub returns-clause-broken : goal.returns-clause-broken
returns-clause-broken c =
    text_lacks_main c.args.raw.now c.in_ok-tables.tables c.in_ok-tables.ensures.text c.in_ok-tables.ensures.scope c.as_slice.result.now c.as_slice.ensures c.items.new.tables c.in_ok-items.ensures
    (sym c.has_main.ensures ∙ c.if-has_main.false)

pub returns-in_err-items-clause-first : goal.returns-in_err-items-clause-first
returns-in_err-items-clause-first c =
    passes_on (NamesFirst c.args.raw.now) c.in_err-items.field-0.0 c.from_residual-in_err-items.result c.from_residual-in_err-items.ensures.1
    (text_broken_first c.args.raw.now c.in_ok-tables.tables c.in_ok-tables.ensures.text c.in_ok-tables.ensures.scope c.as_slice.result.now c.as_slice.ensures c.items.new.tables c.in_err-items.field-0.0 c.in_err-items.ensures)
