use Rattle.points_to.proofs.SidesLemmas.{filled_used}
use Rattle.points_to.proofs.solver.Solver.store_result.Goals as goal

pub returns : goal.returns
returns c = λ into left. filled_used c.args.self.now c.fill_result.new.self c.join.new.self c.join.result into _ left c.fill_result.ensures c.join.ensures
