use Rattle.std.proofs.Common.{ap, ◌∙◌}
use Rattle.bit_rows.specs.Tables.{the_set}
use Rattle.points_to.proofs.SidesLemmas.{filled_used}
use Rattle.points_to.proofs.solver.Solver.store.Goals as goal

pub returns-clause-used : goal.returns-clause-used
returns-clause-used c = λ into left. filled_used c.args.self.now c.fill_value.new.self c.join.new.self c.join.result into _ left c.fill_value.ensures c.join.ensures

pub returns-clause-left : goal.returns-clause-left
returns-clause-left c = ap (λ u. the_set u 0) c.join.ensures.sides_stay ∙ c.fill_value.ensures.left_stays

pub returns-clause-ready : goal.returns-clause-ready
returns-clause-ready c = c.join.ensures.ready

pub returns-clause-program : goal.returns-clause-program
returns-clause-program c = c.join.ensures.program_stays ∙ c.fill_value.ensures.program_stays
