use Rattle.slice_engine.proofs.SlicesThere.{lines_have_one_slice}
use Rattle.slice_engine.proofs.laws.lines_have_one_slice.Goals as goal

pub returns : goal.returns
returns c = lines_have_one_slice
