-- What a fault of the rules' walk and of the making of a program is to the check of a text.
use Rattle.c_tree.specs.declared.limits.LimitName.TheVariants.{ArrayLength}
use Rattle.c_types_rules.specs.declared.walk_fault.WalkFault.{WalkFault}
use Rattle.c_types_rules.specs.declared.walk_fault.WalkFault.TheVariants as walk
use Rattle.c_types_trees.specs.declared.make_fault.MakeFault.{MakeFault}
use Rattle.c_types_trees.specs.declared.make_fault.MakeFault.TheVariants as make
use Rattle.c_types.specs.declared.rule_fault.RuleFault.{RuleFault}
use Rattle.c_types.specs.declared.rule_fault.RuleFault.TheVariants.{Rule, Limit, NoMemory}

abbrev pub of_walk : WalkFault → RuleFault
of_walk (walk.Rule number line) = Rule number line
of_walk walk.NoMemory = NoMemory

abbrev pub of_making : MakeFault → RuleFault
of_making make.Length = Limit ArrayLength
of_making make.NoMemory = NoMemory
