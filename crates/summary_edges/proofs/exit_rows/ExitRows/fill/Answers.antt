use Rattle.dep_model.specs.Facts.{HoldsFact}
use Rattle.summary_edges.proofs.FillLaws.{filled_exits}
use Rattle.summary_edges.proofs.SpreadLaws.{shapes_follow}
use Rattle.summary_edges.proofs.exit_rows.ExitRows.fill.Goals as goal

pub returns-clause-exact : goal.returns-clause-exact
returns-clause-exact c =
    let filled = c.close.ensures.filled in
    filled_exits c.args.g.now (HoldsFact c.args.g.now c.args.known.now) c.args.part c.close.new.self filled.filling filled.down

pub returns-clause-shape : goal.returns-clause-shape
returns-clause-shape c = shapes_follow c.args.self.now c.begin.new.self c.close.new.self c.begin.ensures.shape c.close.ensures.shape
