-- The statements of the parts of a statement, as the walk takes them.
use Rattle.std.specs.Prelude.{List, [], ◌∷◌, ◌++◌, Option, Some, None}
use Rattle.c_tree.specs.declared.statement.Arm.{Arm}
use Rattle.c_tree.specs.declared.statement.Statement.{Statement}
use Rattle.dep_model.specs.Doings.{Doing, doings, body_doings}

abbrev pub arm_doings : Arm → List Doing
arm_doings a = body_doings a.body

abbrev pub arms_doings : List Arm → List Doing
arms_doings [] = []
arms_doings (a ∷ as_) = arm_doings a ++ arms_doings as_

abbrev pub part_doings : Option Statement → List Doing
part_doings None = []
part_doings (Some s) = doings s
