use Rattle.c_types_base.proofs.LiteralLemmas.{first_plain}
use Rattle.c_types_base.proofs.literal.first_byte.Goals as goal

pub returns-in-Some : goal.returns-in-Some
returns-in-Some c = first_plain c.args.inside.now c.in-Some.b.now c.in-Some.ensures.value c.in-Some.b-test.1
