use Rattle.std.proofs.Common.{length}
use Rattle.points_to.proofs.solver.Solver.+pass.Given as goal

abbrev pub decreases-pass : goal.decreases-pass
decreases-pass l = length l.parameters.now
