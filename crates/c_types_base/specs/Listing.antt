-- What is listed of members, parameters and items along a text.
use Rattle.std.specs.Prelude.{◌≡◌, ℕ, Bool, false, List, [], ◌∷◌, is_some, Option, Some, None, option_and_then, slice_get, bytes_eq}
use Rattle.std.specs.List.{list_any}
use Rattle.c_tree.specs.declared.raw.program.RawMember.{RawMember}
use Rattle.c_tree.specs.declared.raw.program.RawParam.{RawParam}
use Rattle.c_tree.specs.declared.raw.program.RawItem.{RawItem}
use Rattle.c_tree.specs.declared.raw.program.RawItem.TheVariants.{Include, Tag, Struct, Global, Prototype, Define}
use Rattle.c_tree.specs.declared.raw.program.RawProgram.{RawProgram}
use Rattle.c_language.specs.Words.{Bytes}
use Rattle.c_language.specs.DeclaredTypes.{defined_structs, written_type}
use Rattle.c_language.specs.ExprTypes.{member_named}
use Rattle.c_types_base.specs.Names.{listed_type}
use Rattle.c_types_base.specs.declared.names.StructMembers.{StructMembers}

-- the members are listed with their types
pub record HasMembers (raw : RawProgram) (members : List RawMember) (listed : StructMembers) : Type 0 where
  pub there : (name : Bytes) → is_some (listed_type name listed) ≡ is_some (member_named members name)
  pub types : (name : Bytes) → listed_type name listed ≡ option_and_then (λ (m : RawMember). written_type raw m.shape) (member_named members name)

abbrev pub name_before : Option Bytes → List Bytes → List Bytes
name_before None names = names
name_before (Some name) names = name ∷ names

-- the names of those parameters that have one
abbrev pub names_given : List RawParam → List Bytes
names_given [] = []
names_given (p ∷ ps) = name_before p.name (names_given ps)

-- whether this is the name
abbrev pub has_name : Bytes → Option Bytes → Bool
has_name name None = false
has_name name (Some other) = bytes_eq other name

-- whether the name of a parameter, where it has one, is that of one before it
abbrev pub IsGiven : List RawParam → RawParam → Bool → Type 0
IsGiven before p is_named = (name : Bytes) → p.name ≡ Some name → is_named ≡ list_any (λ (q : RawParam). has_name name q.name) before

-- a struct type that is defined behind so many is the next that the text defines
abbrev pub HasPlace : RawProgram → ℕ → RawItem → Type 0
HasPlace raw count (Include is_stdlib) = Unit {0}
HasPlace raw count (Tag line name) = Unit {0}
HasPlace raw count (Struct line tag members) = slice_get (defined_structs raw) count ≡ Some (record { tag = tag; members = members })
HasPlace raw count (Global line var i is_static) = Unit {0}
HasPlace raw count (Prototype line head) = Unit {0}
HasPlace raw count (Define line head body) = Unit {0}
