-- What making a type answers.
use Rattle.std.specs.Prelude.{◌≡◌, ◌≤◌, Option, Some, Result, Ok, Err}
use Rattle.c_tree.specs.declared.types.CType.{CType}
use Rattle.c_tree.specs.declared.program.Member.{Member}
use Rattle.c_language.specs.Limits.{longest}
use Rattle.c_types_trees.specs.declared.make_fault.MakeFault.{MakeFault}
use Rattle.c_types_trees.specs.declared.make_fault.MakeFault.TheVariants.{Length, NoMemory}

-- where there is a type, one of its lengths hasn't 32 bits
abbrev pub IsLong : Option CType → Type 0
IsLong outcome = (t : CType) → outcome ≡ Some t → 4294967296 ≤ longest t

-- a type where there is one, or that a length in it hasn't 32 bits, but for want of memory
abbrev pub Shapes : Option CType → Result (Option CType) MakeFault → Type 0
Shapes outcome (Ok t) = outcome ≡ t
Shapes outcome (Err Length) = IsLong outcome
Shapes outcome (Err NoMemory) = Unit {0}

-- the same of a type that is there
abbrev pub Makes : Option CType → Result CType MakeFault → Type 0
Makes outcome (Ok t) = outcome ≡ Some t
Makes outcome (Err Length) = IsLong outcome
Makes outcome (Err NoMemory) = Unit {0}

-- a member where its type is made
abbrev pub MakesMember : Option Member → Result Member MakeFault → Type 0
MakesMember outcome (Ok m) = outcome ≡ Some m
MakesMember outcome (Err Length) = (m : Member) → outcome ≡ Some m → 4294967296 ≤ longest m.shape
MakesMember outcome (Err NoMemory) = Unit {0}
