use Rattle.c_types_checks.proofs.FormatLemmas.{long_converts}
use Rattle.c_types_checks.proofs.conversions.after_long.Goals as goal

pub returns-in-Some : goal.returns-in-Some
returns-in-Some c = λ rest. long_converts c.args.byte rest _ c.in-Some.ensures
