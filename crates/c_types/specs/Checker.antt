-- What the check of a text answers.
use Rattle.std.specs.Prelude.{◌≡◌, ◌<◌, ◌≤◌, Result, Ok, Err}
use Rattle.c_tree.specs.declared.limits.LimitName.{LimitName}
use Rattle.c_tree.specs.declared.limits.LimitName.TheVariants.{ArrayLength, ObjectCells}
use Rattle.c_tree.specs.declared.program.Program.{Program}
use Rattle.c_tree.specs.declared.raw.program.RawProgram.{RawProgram}
use Rattle.c_language.specs.Limits.{array_length, object_cells}
use Rattle.c_language.specs.Programs.{HasProgram}
use Rattle.c_language.specs.Rules.{IsBroken, KeepsRules}
use Rattle.c_types_rules.specs.Walks as walks
use Rattle.c_types_rules.specs.declared.walk_fault.WalkFault.TheVariants as walk
use Rattle.c_types.specs.declared.rule_fault.RuleFault.{RuleFault}
use Rattle.c_types.specs.declared.rule_fault.RuleFault.TheVariants.{Rule, Limit, NoMemory}

-- the text keeps all rules, and this quantity of its program is above its number
pub data IsAbove (raw : RawProgram) : LimitName → Type 0 where
  lengths : {p : Program} → HasProgram raw p → 65536 < array_length p → IsAbove raw ArrayLength
  -- cells are counted once all lengths are within theirs
  cells : {p : Program} → HasProgram raw p → array_length p ≤ 65536 → 1048576 < object_cells p → IsAbove raw ObjectCells

-- the text keeps all rules, this is its program, and both quantities are within their numbers
pub record IsWithinNumbers (raw : RawProgram) (p : Program) : Type 0 where
  pub has : HasProgram raw p
  pub lengths : array_length p ≤ 65536
  pub cells : object_cells p ≤ 1048576

-- the program, a rule that is broken at a line, or a quantity that is above its number
abbrev pub Answers : RawProgram → Result Program RuleFault → Type 0
Answers raw (Ok p) = IsWithinNumbers raw p
Answers raw (Err (Rule number line)) = IsBroken number line raw
Answers raw (Err (Limit name)) = IsAbove raw name
Answers raw (Err NoMemory) = Unit {0}

-- this program is answered, unless memory runs out
abbrev pub Gives : Program → Result Program RuleFault → Type 0
Gives p (Ok q) = q ≡ p
Gives p (Err (Rule number line)) = ⊥
Gives p (Err (Limit name)) = ⊥
Gives p (Err NoMemory) = Unit {0}

-- a broken rule is answered, unless memory runs out
abbrev pub NamesRule : Result Program RuleFault → Type 0
NamesRule (Ok q) = ⊥
NamesRule (Err (Rule number line)) = Unit {0}
NamesRule (Err (Limit name)) = ⊥
NamesRule (Err NoMemory) = Unit {0}

-- this quantity is answered, unless memory runs out
abbrev pub NamesLimit : LimitName → Result Program RuleFault → Type 0
NamesLimit wanted (Ok q) = ⊥
NamesLimit wanted (Err (Rule number line)) = ⊥
NamesLimit wanted (Err (Limit name)) = name ≡ wanted
NamesLimit wanted (Err NoMemory) = Unit {0}

-- a rule is broken by the first phrase of the text that breaks any, at its line; where no phrase does, it is the rule on main
abbrev pub IsFirst : RawProgram → RuleFault → Type 0
IsFirst raw (Rule number line) = walks.NamesFirst raw (Err (walk.Rule number line))
IsFirst raw (Limit name) = Unit {0}
IsFirst raw NoMemory = Unit {0}

-- the fault that is answered is the first one
abbrev pub TellsFirst : {A : Type 0} → RawProgram → Result A RuleFault → Type 0
TellsFirst raw (Ok x) = Unit {0}
TellsFirst raw (Err fault) = IsFirst raw fault

-- what the check of the rules answers: that no rule is broken, or one that is
abbrev pub Told : RawProgram → Result (Unit {0}) RuleFault → Type 0
Told raw (Ok x) = KeepsRules raw
Told raw (Err (Rule number line)) = IsBroken number line raw
Told raw (Err (Limit name)) = ⊥
Told raw (Err NoMemory) = Unit {0}

-- the program of a text that keeps all rules, or its arrays are too long
abbrev pub Made : RawProgram → Result Program RuleFault → Type 0
Made raw (Ok p) = HasProgram raw p
Made raw (Err (Rule number line)) = ⊥
Made raw (Err (Limit name)) = IsAbove raw name
Made raw (Err NoMemory) = Unit {0}
