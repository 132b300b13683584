use Rattle.c_types_checks.proofs.FormatLemmas.{byte_written}
use Rattle.c_types_checks.proofs.conversions.step_of.Goals as goal

pub returns-else-byte-eq37 : goal.returns-else-byte-eq37
returns-else-byte-eq37 c = λ rest. rw c.in-Nothing.is (byte_written c.args.byte rest c.if-byte-eq37.false)
