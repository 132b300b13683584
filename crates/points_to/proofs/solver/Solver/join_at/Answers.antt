use Rattle.std.proofs.Common.{sym, ◌∙◌}
use Rattle.points_to.proofs.JoinLemmas.{joined_in, joined_out}
use Rattle.points_to.proofs.solver.Solver.join_at.Goals as goal

pub returns-then-has : goal.returns-then-has
returns-then-has c = joined_in c.args.place c.args.self.now c.grow.new.self c.grow.result c.requires.ready c.requires.place_in (sym c.has.ensures ∙ c.if-has.true) c.grow.ensures

pub returns-else-has : goal.returns-else-has
returns-else-has c = joined_out c.args.place c.args.self.now c.requires.ready (sym c.has.ensures ∙ c.if-has.false)
