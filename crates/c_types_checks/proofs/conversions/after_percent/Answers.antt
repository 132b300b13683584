use Rattle.c_types_checks.proofs.FormatLemmas.{percent_converts, percent_written}
use Rattle.c_types_checks.proofs.conversions.after_percent.Goals as goal

pub returns-then-byte-eq37 : goal.returns-then-byte-eq37
returns-then-byte-eq37 c = λ rest. percent_written c.args.byte rest c.if-byte-eq37.true

pub returns-in-Some : goal.returns-in-Some
returns-in-Some c = λ rest. percent_converts c.args.byte rest _ c.if-byte-eq37.false c.if-byte-eq108.false c.in-Some.ensures
