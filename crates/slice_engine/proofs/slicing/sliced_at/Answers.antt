use Rattle.slice_engine.proofs.SliceLaws.{is_sliced}
use Rattle.slice_engine.proofs.slicing.sliced_at.Goals as goal

pub returns-clause-sliced : goal.returns-clause-sliced
returns-clause-sliced c =
    let p = c.args.p.now in
    is_sliced p c.args.graph.now c.requires.passing.facts c.args.starts.now c.args.line c.in_ok-kept.kept c.in_ok-program.program c.in_ok-in_criterion.in_criterion.items c.requires.passing.prepared c.in_ok-kept.ensures.kept c.in_ok-program.ensures c.in_ok-in_criterion.ensures
