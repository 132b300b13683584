use Rattle.slice_engine.proofs.EngineLaws.{start_decides}
use Rattle.slice_engine.proofs.engine.has_start.Goals as goal

pub returns : goal.returns
returns c =
    start_decides c.args.p.now c.args.graph.now c.args.facts.now c.args.starts.now c.requires c.args.line c.any_starts_on.result c.any_starts_on.ensures
