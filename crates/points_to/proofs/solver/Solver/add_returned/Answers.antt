use Rattle.std.proofs.Common.{ap}
use Rattle.effect_rows.proofs.ReadLemmas.{none_read}
use Rattle.points_to.specs.Rounds.{returned_by}
use Rattle.points_to.proofs.solver.Solver.add_returned.Goals as goal

pub returns-in-None-clause-gained : goal.returns-in-None-clause-gained
returns-in-None-clause-gained c = none_read c.args.self.now.effects 2 c.args.self.now.sides (returned_by c.args.called) (ap returned_by c.in-None.is)
