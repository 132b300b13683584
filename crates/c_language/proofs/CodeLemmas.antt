-- Parts of statements as code: an arm, a block, a list, and what may be absent.
use Rattle.std.proofs.Common.{◌≡◌, List, [], ◌∷◌, map, Option, Some, None, refl, ap}
use Rattle.c_tree.specs.declared.statement.Statement.{Statement}
use Rattle.c_tree.specs.declared.statement.Arm.{Arm, fold-Arm}
use Rattle.c_language.specs.Code.{Code, StatementPart, list_of, block, ArmPart, part_step, arm_step, part, code}

abbrev pub arm_part : Arm → ArmPart
arm_part = fold-Arm StatementPart ArmPart part_step arm_step

-- the parts of a block, which ends with what it declared
abbrev pub block_of : List Statement → Code
block_of ss = block (map part ss)

pub list_of-code : (ss : List Statement) → list_of (map part ss) ≡ code ss
list_of-code [] = refl
list_of-code (x ∷ ss) = ap (part x).before (list_of-code ss)

-- the statements of a part that may be absent
abbrev pub part_list : Option Statement → List StatementPart
part_list None = []
part_list (Some x) = part x ∷ []
