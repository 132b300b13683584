use Rattle.summary_edges.proofs.SpreadLaws.{shapes_follow}
use Rattle.summary_edges.proofs.exit_rows.ExitRows.refill.Goals as goal

pub returns-clause-shape : goal.returns-clause-shape
returns-clause-shape c = shapes_follow c.args.self.now c.renew.new.self c.close.new.self c.renew.ensures.shape c.close.ensures.shape
