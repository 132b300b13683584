use Rattle.points_to.proofs.SidesLemmas.{filled_used}
use Rattle.points_to.proofs.solver.Solver.store_site.Goals as goal

pub returns : goal.returns
returns c = λ into left. filled_used c.args.self.now c.fill_site.new.self c.join.new.self c.join.result into _ left c.fill_site.ensures c.join.ensures
