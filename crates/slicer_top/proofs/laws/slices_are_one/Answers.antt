use Rattle.slicer_top.proofs.Slices.{slice_of_one}
use Rattle.slicer_top.proofs.laws.slices_are_one.Goals as goal

pub returns : goal.returns
returns c = λ text line t u a b. slice_of_one text line t u a b
