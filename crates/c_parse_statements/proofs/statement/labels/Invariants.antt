use Rattle.std.proofs.Common.{◌≡◌, ◌-◌}
use Rattle.c_parse_statements.specs.StatementReading.{labels, labels_from}
use Rattle.c_parse_statements.proofs.statement.labels.Given as goal

abbrev pub invariant-loop-turn : goal.invariant-loop-turn
invariant-loop-turn l = labels l.depth l.fn.tokens ≡ labels_from l.depth (l.turns - l._turn) l.found l.tokens
