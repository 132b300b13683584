-- What the walk that makes a program has made so far.
use Rattle.std.specs.Prelude.{◌≡◌, List, map, Option, Some, option_map, Contains}
use Rattle.c_arith.specs.declared.int_type.IntType.{IntType}
use Rattle.c_tree.specs.declared.program.Var.{Var}
use Rattle.c_tree.specs.declared.statement.Arm.{Arm}
use Rattle.c_tree.specs.declared.statement.Statement.{Statement}
use Rattle.c_tree.specs.declared.raw.program.RawProgram.{RawProgram}
use Rattle.c_tree.specs.declared.raw.statement.RawLabel.{RawLabel}
use Rattle.c_tree.specs.declared.raw.statement.RawArm.{RawArm}
use Rattle.c_tree.specs.declared.raw.statement.RawStatement.{RawStatement}
use Rattle.c_language.specs.Scopes.{Scope, in_order, after_all, after_block, after_part, part_gives}
use Rattle.c_language.specs.Phrases.{Stand, ArmText, joined_at, block_phrases, at_stand, phrases_of_arms, scoped, scoped_of_arm, IsInside}
use Rattle.c_language.specs.ProgramOf.{collected, treed, block_tree, part_tree, at_type, variables_in, treed_arm}
use Rattle.c_types_base.specs.Tables.{scope_of, IsAt}
use Rattle.c_types_trees.specs.KeptPhrases.{IsKeptLabel}
use Rattle.c_types_trees.specs.FitPhrases.{AreFit, AreFitInside, IsFitInside, IsFitPart}
use Rattle.c_types_program.specs.declared.walk.Walk.{Walk}
use Rattle.c_types_program.specs.Variables.{Grow}

-- the walk has come to a scope, and has made variables besides
pub record Comes (old new : Walk) (scope : Scope) (more : List (Option Var)) : Type 0 where
  pub arrives : IsAt old.tables new.tables scope
  pub grow : Grow old.variables new.variables more

-- ---- statements

-- the phrases of a statement fit, where the walk is
abbrev pub Fits : Walk → RawStatement → Type 0
Fits w one = IsFitInside w.tables.raw.now one (scope_of w.tables)

-- the tree of a statement, where the walk is
abbrev pub HasTree : Walk → RawStatement → Statement → Type 0
HasTree w one x = (treed w.tables.raw.now one).gives (scope_of w.tables) ≡ Some x

-- the walk has passed a statement
abbrev pub Passes : Walk → Walk → RawStatement → Type 0
Passes old new one =
    (stand : Stand) → IsInside stand
    → Comes old new ((treed old.tables.raw.now one).after (scope_of old.tables)) (variables_in old.tables.raw.now ((scoped old.tables.raw.now one).gives (scope_of old.tables) stand))

-- and so for statements one after another
abbrev pub FitAll : Walk → List RawStatement → Type 0
FitAll w body = AreFitInside w.tables.raw.now body (scope_of w.tables)

abbrev pub HaveTrees : Walk → List RawStatement → List Statement → Type 0
HaveTrees w body xs = collected (in_order (map (treed w.tables.raw.now) body) (scope_of w.tables)) ≡ Some xs

abbrev pub PassesAll : Walk → Walk → List RawStatement → Type 0
PassesAll old new body =
    (stand : Stand) → IsInside stand
    → Comes old new (after_all (map (treed old.tables.raw.now) body) (scope_of old.tables))
    (variables_in old.tables.raw.now (joined_at stand (in_order (map (scoped old.tables.raw.now) body) (scope_of old.tables))))

-- for a block
abbrev pub FitsBlock : Walk → List RawStatement → Type 0
FitsBlock w body = AreFit w.tables.raw.now (block_phrases (map (scoped w.tables.raw.now) body) (scope_of w.tables))

abbrev pub HasBlock : Walk → List RawStatement → List Statement → Type 0
HasBlock w body xs = block_tree (map (treed w.tables.raw.now) body) (scope_of w.tables) ≡ Some xs

abbrev pub PassesBlock : Walk → Walk → List RawStatement → Type 0
PassesBlock old new body =
    Comes old new (after_block (map (treed old.tables.raw.now) body) (scope_of old.tables))
    (variables_in old.tables.raw.now (block_phrases (map (scoped old.tables.raw.now) body) (scope_of old.tables)))

-- for a part of a for, which may be missing
abbrev pub FitsPart : Walk → Option RawStatement → Type 0
FitsPart w part = IsFitPart w.tables.raw.now part (scope_of w.tables)

abbrev pub HasPart : Walk → Option RawStatement → Option Statement → Type 0
HasPart w part x = part_tree (option_map (treed w.tables.raw.now) part) (scope_of w.tables) ≡ Some x

abbrev pub PassesPart : Walk → Walk → Option RawStatement → Type 0
PassesPart old new part =
    (stand : Stand) → IsInside stand
    → Comes old new (after_part (option_map (treed old.tables.raw.now) part) (scope_of old.tables))
    (variables_in old.tables.raw.now (at_stand stand (part_gives (option_map (scoped old.tables.raw.now) part) (scope_of old.tables))))

-- each of the labels is one of a switch that breaks no rule
abbrev pub AreLabels : RawProgram → List RawLabel → Type 0
AreLabels raw labels = (one : RawLabel) → Contains labels one → IsKeptLabel raw one

abbrev pub arm_text : Walk → RawArm → ArmText
arm_text w one = (scoped_of_arm w.tables.raw.now one).gives (scope_of w.tables)

abbrev pub arm_texts : Walk → List RawArm → List ArmText
arm_texts w arms = in_order (map (scoped_of_arm w.tables.raw.now) arms) (scope_of w.tables)

abbrev pub HasArm : Walk → IntType → RawArm → Arm → Type 0
HasArm w t one x = (treed_arm w.tables.raw.now one).gives (scope_of w.tables) t ≡ Some x

abbrev pub PassesArm : Walk → Walk → RawArm → Type 0
PassesArm old new one =
    Comes old new ((treed_arm old.tables.raw.now one).after (scope_of old.tables)) (variables_in old.tables.raw.now (arm_text old one).phrases)

abbrev pub HaveArms : Walk → IntType → List RawArm → List Arm → Type 0
HaveArms w t arms xs = at_type t (in_order (map (treed_arm w.tables.raw.now) arms) (scope_of w.tables)) ≡ Some xs

abbrev pub PassesArms : Walk → Walk → List RawArm → Type 0
PassesArms old new arms =
    Comes old new (after_all (map (treed_arm old.tables.raw.now) arms) (scope_of old.tables)) (variables_in old.tables.raw.now (phrases_of_arms (arm_texts old arms)))
