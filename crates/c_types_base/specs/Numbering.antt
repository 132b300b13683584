-- Names with numbers, in the order in which they are given.
use Rattle.std.specs.Prelude.{◌≡◌, ℕ, List, length, Option, position, bytes_eq}
use Rattle.std.specs.Borrow.{Bor}
use Rattle.std.specs.HashMap.{get_by}
use Rattle.c_language.specs.Words.{Bytes}
use Rattle.c_types_base.specs.declared.numbering.Numbering.{Numbering}

-- the first place of a name in a list
abbrev pub number_among : List Bytes → Bytes → Option ℕ
number_among names name = position (λ (x : Bytes). bytes_eq x name) names

-- the number of a name in a table
abbrev pub number_in : Numbering → Bytes → Option ℕ
number_in n name = get_by (λ (k : Bor (List ℕ)). bytes_eq name k.now) n.entries

-- the table has the first place of each name of the list
pub record Numbers (names : List Bytes) (n : Numbering) : Type 0 where
  pub count : n.count ≡ length names
  pub numbered : (name : Bytes) → number_in n name ≡ number_among names name
