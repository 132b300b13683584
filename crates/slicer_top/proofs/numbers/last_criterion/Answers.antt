use Rattle.slicer_top.proofs.Big.{last_starts}
use Rattle.slicer_top.proofs.numbers.last_criterion.Goals as goal

pub returns : goal.returns
returns c = record {
  starts = last_starts c.args.engine.now c.last_line.result c.requires c.last_line.ensures.latest c.last_line.ensures.is_one;
  last = c.last_line.ensures.latest;
}
