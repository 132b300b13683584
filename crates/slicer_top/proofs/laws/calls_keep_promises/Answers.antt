use Rattle.slicer_top.proofs.Promised.{calls_keep}
use Rattle.slicer_top.proofs.laws.calls_keep_promises.Goals as goal

pub returns : goal.returns
returns g c = calls_keep _ _ _ _ _ _ _ _ _ _ _
