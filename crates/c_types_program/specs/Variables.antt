-- The variables that are made so far.
use Rattle.std.specs.Prelude.{◌≡◌, ◌≤◌, true, false, List, ◌++◌, map, Option, Some, Contains}
use Rattle.c_tree.specs.declared.program.Var.{Var}
use Rattle.c_language.specs.Limits.{longest}
use Rattle.c_types_program.specs.declared.variables.Variables.{Variables}

-- a variable has an array of 2^32 elements or more
abbrev pub IsLong : Option Var → Type 0
IsLong o = (v : Var) → o ≡ Some v → 4294967296 ≤ longest v.shape

abbrev pub HasLong : List (Option Var) → Type 0
HasLong found = (o : Option Var) × Contains found o × IsLong o

-- the variables that are found so far are made, or one of them is too long
pub record AreMade (vs : Variables) (found : List (Option Var)) : Type 0 where
  pub made : vs.is_long ≡ false → map Some vs.made ≡ found
  pub long : vs.is_long ≡ true → HasLong found

-- these variables are made besides
abbrev pub Grow : Variables → Variables → List (Option Var) → Type 0
Grow old new more = (found : List (Option Var)) → AreMade old found → AreMade new (found ++ more)
