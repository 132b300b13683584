-- What a text defines, found by names.
use Rattle.std.specs.Prelude.{◌≡◌, List, [], ◌∷◌, map}
use Rattle.std.specs.Borrow.{Bor}
use Rattle.c_tree.specs.declared.raw.program.RawMember.{RawMember}
use Rattle.c_tree.specs.declared.raw.program.RawHead.{RawHead}
use Rattle.c_tree.specs.declared.raw.program.RawItem.{RawItem}
use Rattle.c_language.specs.Words.{Bytes}
use Rattle.c_language.specs.DeclaredTypes.{StructText, struct_texts, function_texts}
use Rattle.c_types_base.specs.Numbering.{Numbers}
use Rattle.c_types_base.specs.declared.numbering.Numbering.{Numbering}
use Rattle.c_types_base.specs.declared.definitions.Definitions.{Definitions}

abbrev pub names_of_members : List RawMember → List Bytes
names_of_members ms = map (λ (m : RawMember). m.name) ms

abbrev pub tags_of : List StructText → List Bytes
tags_of ss = map (λ (s : StructText). s.tag) ss

abbrev pub names_of_functions : List RawHead → List Bytes
names_of_functions fs = map (λ (f : RawHead). f.name) fs

-- a table for each struct type, with the places of its members
abbrev pub NumberMembers : List StructText → List Numbering → Type 0
NumberMembers [] [] = Unit {0}
NumberMembers [] (n ∷ ns) = ⊥
NumberMembers (s ∷ ss) [] = ⊥
NumberMembers (s ∷ ss) (n ∷ ns) = Numbers (names_of_members s.members) n × NumberMembers ss ns

-- the tables have what the items define
pub record Defines (items : List RawItem) (d : Definitions) : Type 0 where
  pub tags : Numbers (tags_of (struct_texts items)) d.tags
  pub members : NumberMembers (struct_texts items) d.members
  pub functions : Numbers (names_of_functions (function_texts items)) d.functions
  pub heads : map (λ (h : Bor RawHead). h.now) d.heads.items ≡ function_texts items

-- the tables have what their text defines
abbrev pub IsOfText : Definitions → Type 0
IsOfText d = Defines d.raw.now.items d
