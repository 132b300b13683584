-- The statements that do something themselves, in the order of their numbers.
use Rattle.std.specs.Prelude.{List, [], ◌∷◌, ◌++◌, map, Option, Some, None}
use Rattle.std.specs.Borrow.{Bor}
use Rattle.c_tree.specs.declared.statement.Arm.{Arm}
use Rattle.c_tree.specs.declared.statement.Statement.{Statement}
use Rattle.dep_model.specs.Doings.{Doing, doings, body_doings}
use Rattle.effect_rows.specs.Own.{own_doing}

-- what each of some statements does itself
abbrev pub own_doings : List (Bor Statement) → List (Option Doing)
own_doings xs = map (λ (x : Bor Statement). own_doing x.now) xs

-- each of these is done
abbrev pub done : List Doing → List (Option Doing)
done ds = map Some ds

-- ---- the statements of the parts of a statement, as the walk takes them

abbrev pub arm_doings : Arm → List Doing
arm_doings a = body_doings a.body

abbrev pub arms_doings : List Arm → List Doing
arms_doings [] = []
arms_doings (a ∷ as_) = arm_doings a ++ arms_doings as_

abbrev pub part_doings : Option Statement → List Doing
part_doings None = []
part_doings (Some s) = doings s
