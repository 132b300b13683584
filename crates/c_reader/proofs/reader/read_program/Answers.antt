use Rattle.c_reader.proofs.ReadLaws.{deep, refused}
use Rattle.c_reader.proofs.reader.read_program.Goals as goal

pub returns-clause-deep : goal.returns-clause-deep
returns-clause-deep c = deep c.args.text.now c.answered.result c.answered.ensures

pub returns-clause-refused : goal.returns-clause-refused
returns-clause-refused c = refused c.args.text.now c.answered.result c.answered.ensures
