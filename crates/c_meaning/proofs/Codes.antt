-- A layer of a statement as a part of code.
use Rattle.std.proofs.Common.{◌≡◌}
use Rattle.c_tree.specs.declared.statement.Statement.{Statement, fold-roll-Statement, roll-Statement, map-Statement}
use Rattle.c_tree.specs.declared.statement.Statement.TheOpen.{Statement-F}
use Rattle.c_tree.specs.declared.statement.Arm.{Arm}
use Rattle.c_language.specs.Code.{StatementPart, ArmPart, part_step, arm_step, part}
use Rattle.c_language.proofs.CodeLemmas.{arm_part}

-- the part that a layer is
abbrev pub layer_part : Statement-F Statement Arm → StatementPart
layer_part z = part_step (map-Statement Statement Arm StatementPart ArmPart part arm_part z)

pub part-roll : (z : Statement-F Statement Arm) → part (roll-Statement z) ≡ layer_part z
part-roll z = fold-roll-Statement StatementPart ArmPart part_step arm_step z
