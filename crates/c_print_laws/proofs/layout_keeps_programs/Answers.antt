use Rattle.std.proofs.Common.{List, ap}
use Rattle.c_tree.specs.declared.raw.program.RawItem.{RawItem}
use Rattle.c_print_laws.proofs.ReadAgain.{same_in_layout}
use Rattle.c_print_laws.proofs.layout_keeps_programs.Goals as goal

pub returns : goal.returns
returns c = λ raw found p h k same keeps is. same_in_layout raw found p h k (ap (λ (xs : List RawItem). record { items = xs }) same) keeps is
