-- In which programs some value of its test takes each arm of a switch.
use Rattle.std.specs.Prelude.{◌≡◌, Bool, true, ◌&&◌, List, [], ◌∷◌}
use Rattle.std.specs.List.{list_all}
use Rattle.c_tree.specs.declared.program.Function.{Function}
use Rattle.c_tree.specs.declared.program.Program.{Program}
use Rattle.c_tree.specs.declared.statement.Label.{Label}
use Rattle.c_tree.specs.declared.statement.Arm.{Arm, fold-Arm}
use Rattle.c_tree.specs.declared.statement.Statement.{Statement, fold-Statement}
use Rattle.c_tree.specs.declared.statement.Statement.TheOpen.{Statement-F, Arm-F}
use Rattle.dep_model.specs.SwitchArms.{has_first, with_labels}
use Rattle.c_language.specs.Lists.{if_there, all_true}

-- an arm of a switch, and whether the arms in it are taken
pub record ArmTakes : Type 0 where
  pub labels : List Label
  pub takes : Bool

-- whether each of the arms is taken, with the labels that stand before them, and so the arms in them
abbrev pub arms_taken : List Label → List ArmTakes → Bool
arms_taken before [] = true
arms_taken before (a ∷ as_) = has_first before a.labels && (a.takes && arms_taken (with_labels before a.labels) as_)

abbrev pub takes_step : Statement-F Bool ArmTakes → Bool
takes_step (Statement-F.Declare id l x i) = true
takes_step (Statement-F.Assign id l left op right) = true
takes_step (Statement-F.Bump id l a up before) = true
takes_step (Statement-F.Invoke id l to f args) = true
takes_step (Statement-F.Fetch id l to) = true
takes_step (Statement-F.Write id l a) = true
takes_step (Statement-F.Print id l format args) = true
takes_step (Statement-F.Heap id l to cast n) = true
takes_step (Statement-F.Release id l a) = true
takes_step (Statement-F.If id l e a b) = all_true a && all_true b
takes_step (Statement-F.While id l e b) = all_true b
takes_step (Statement-F.Do id l e b) = all_true b
takes_step (Statement-F.For id l i e step b) = if_there i && (if_there step && all_true b)
takes_step (Statement-F.Switch id l e arms) = arms_taken [] arms
takes_step (Statement-F.Block l b) = all_true b
takes_step (Statement-F.Return id l e) = true

abbrev pub takes_arm : Arm-F Bool ArmTakes → ArmTakes
takes_arm a = record { labels = a.labels; takes = all_true a.body }

-- each arm of each switch in a statement is taken
abbrev pub takes_all : Statement → Bool
takes_all = fold-Statement Bool ArmTakes takes_step takes_arm

abbrev pub arm_takes : Arm → ArmTakes
arm_takes = fold-Arm Bool ArmTakes takes_step takes_arm

-- each arm of each switch of a program is taken
abbrev pub TakesAll : Program → Type 0
TakesAll p = list_all (λ (f : Function). list_all takes_all f.body) p.functions ≡ true
