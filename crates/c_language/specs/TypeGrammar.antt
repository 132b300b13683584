-- Which tokens a type, a declarator and the parameters of a function have (ISO C99 6.7.2, 6.7.5, 6.7.6).
use Rattle.std.specs.Prelude.{◌≡◌, ℕ, zero, suc, nat_lt, Bool, true, false, not, ◌&&◌, List, [], ◌∷◌, codes, Option, Some, None}
use Rattle.c_arith.specs.declared.int_type.IntType.{IntType}
use Rattle.c_tree.specs.declared.raw.expr.RawExpr.{RawExpr}
use Rattle.c_tree.specs.declared.raw.expr.RawLength.{RawLength}
use Rattle.c_tree.specs.declared.raw.expr.RawLength.TheVariants.{Written, Listed}
use Rattle.c_tree.specs.declared.raw.expr.RawType.{RawType, fold-RawType}
use Rattle.c_tree.specs.declared.raw.expr.RawType.TheOpen.{RawType-F}
use Rattle.c_tree.specs.declared.raw.expr.RawType.TheVariants as type
use Rattle.c_tree.specs.declared.raw.expr.RawVar.{RawVar}
use Rattle.c_tree.specs.declared.raw.program.RawParam.{RawParam}
use Rattle.c_tree.specs.declared.raw.statement.RawTypeName.{RawTypeName}
use Rattle.c_language.specs.Words.{Bytes}
use Rattle.c_language.specs.TokenForms.{Tokens, name, mark, line_of}
use Rattle.c_language.specs.Sees.{sees, sees_name, is_keyword}
use Rattle.c_language.specs.IntWords.{IsIntType}
use Rattle.c_language.specs.ExprGrammar.{IsExpr, conditional_level}
use Rattle.c_language.specs.declared.token.TokenKind.TheVariants.{Mark}

-- the type that stands before declarators: a struct by its tag, or an integer type by all of its words
pub data IsBase : Tokens → RawType → Tokens → Type 0 where
  -- `struct NAME` (6.7.2.3)
  structure : {l m : ℕ} {tag : Bytes} {rest : Tokens} → is_keyword tag ≡ false → IsBase (name (codes "struct") l ∷ name tag m ∷ rest) (type.Struct tag) rest
  -- all the words of an integer type (6.7.2)
  integer : {ts rest : Tokens} {t : IntType} → IsIntType ts t rest → IsBase ts (type.Integer t) rest

-- IsStars ts base pointed rest: the tokens are all the stars at a place and then rest, and make the one type of the other.
pub data IsStars : Tokens → RawType → RawType → Tokens → Type 0 where
  -- no star follows
  done : {rest : Tokens} {a : RawType} → sees Mark (codes "*") rest ≡ false → IsStars rest a a rest
  -- a star, and those behind it
  star : {l : ℕ} {ts rest : Tokens} {a b : RawType} → IsStars ts (type.PointerTo a) b rest → IsStars (mark (codes "*") l ∷ ts) a b rest

-- a type without a name
pub data IsTypeName : Tokens → RawType → Tokens → Type 0 where
  -- a base and stars
  pointed : {ts mid rest : Tokens} {base a : RawType} → IsBase ts base mid → IsStars mid base a rest → IsTypeName ts a rest

-- so many stars upon a type
abbrev pub pointed_n : ℕ → RawType → RawType
pointed_n zero a = a
pointed_n (suc n) a = pointed_n n (type.PointerTo a)

-- the type that a type name is of
abbrev pub named_type : RawTypeName → RawType
named_type t = pointed_n t.stars t.base

-- it is that of a pointer
abbrev pub has_star : RawTypeName → Bool
has_star t = nat_lt 0 t.stars

-- a type name (6.7.6), whose stars are counted
pub data NamesType : Tokens → RawTypeName → Tokens → Type 0 where
  -- a base and stars
  starred : {n : ℕ} {ts mid rest : Tokens} {base : RawType}
      → IsBase ts base mid → IsStars mid base (pointed_n n base) rest → NamesType ts (record { base = base; stars = n }) rest

-- IsLengths ts element shape rest: the tokens are all the lengths at a place and then rest, the outermost first, and make arrays of the element.
pub data IsLengths : Tokens → RawType → RawType → Tokens → Type 0 where
  -- no bracket follows
  done : {rest : Tokens} {a : RawType} → sees Mark (codes "[") rest ≡ false → IsLengths rest a a rest
  -- a length in brackets: an array of what the lengths behind it make
  length : {l m : ℕ} {ts mid rest : Tokens} {n : RawExpr} {a b : RawType}
      → IsExpr conditional_level ts n (mark (codes "]") m ∷ mid) → IsLengths mid a b rest → IsLengths (mark (codes "[") l ∷ ts) a (type.Array b (Written n)) rest

-- the lengths of a declarator, of which the first may be empty
pub data IsOuterLengths : Tokens → RawType → RawType → Tokens → Type 0 where
  -- all of them are written
  written : {ts rest : Tokens} {a b : RawType} → IsLengths ts a b rest → IsOuterLengths ts a b rest
  -- the first is empty
  empty : {l m : ℕ} {ts rest : Tokens} {a b : RawType}
      → IsLengths ts a b rest → IsOuterLengths (mark (codes "[") l ∷ mark (codes "]") m ∷ ts) a (type.Array b Listed) rest

-- a declarator with the type that it gives its name
pub data IsDeclarator : Tokens → RawType → RawVar → Tokens → Type 0 where
  -- stars, a name and lengths
  named : {l : ℕ} {ts mid rest : Tokens} {base a b : RawType} {text : Bytes}
      → IsStars ts base a (name text l ∷ mid) → is_keyword text ≡ false → IsOuterLengths mid a b rest
      → IsDeclarator ts base (record { name = text; shape = b }) rest

-- the name of a parameter, which may lack
pub data IsParamName : Tokens → Option Bytes → Tokens → Type 0 where
  -- a name
  named : {l : ℕ} {text : Bytes} {rest : Tokens} → is_keyword text ≡ false → IsParamName (name text l ∷ rest) (Some text) rest
  -- no name follows
  unnamed : {rest : Tokens} → sees_name rest ≡ false → IsParamName rest None rest

-- a parameter; one that is written as an array is a pointer, and its length may lack
pub data IsParam : Tokens → RawParam → Tokens → Type 0 where
  -- no length
  plain : {ts mid rest : Tokens} {a : RawType} {called : Option Bytes}
      → IsTypeName ts a mid → IsParamName mid called rest → sees Mark (codes "[") rest ≡ false
      → IsParam ts (record { line = line_of ts; name = called; shape = a; length = None }) rest
  -- empty brackets
  unsized : {l m : ℕ} {ts mid rest : Tokens} {a : RawType} {called : Option Bytes}
      → IsTypeName ts a mid → IsParamName mid called (mark (codes "[") l ∷ mark (codes "]") m ∷ rest)
      → IsParam ts (record { line = line_of ts; name = called; shape = type.PointerTo a; length = None }) rest
  -- a length in brackets
  sized : {l m : ℕ} {ts mid next rest : Tokens} {a : RawType} {called : Option Bytes} {n : RawExpr}
      → IsTypeName ts a mid → IsParamName mid called (mark (codes "[") l ∷ next) → IsExpr conditional_level next n (mark (codes "]") m ∷ rest)
      → IsParam ts (record { line = line_of ts; name = called; shape = type.PointerTo a; length = Some n }) rest

-- parameters, each behind a comma, up to the closing parenthesis and with it
pub data IsMoreParams : Tokens → List RawParam → Tokens → Type 0 where
  -- no more
  closed : {l : ℕ} {rest : Tokens} → IsMoreParams (mark (codes ")") l ∷ rest) [] rest
  -- one more, and those behind it
  more : {l : ℕ} {ts mid rest : Tokens} {p : RawParam} {ps : List RawParam}
      → IsParam ts p mid → IsMoreParams mid ps rest → IsMoreParams (mark (codes ",") l ∷ ts) (p ∷ ps) rest

-- what stands behind the opening parenthesis of a function's parameters, with the closing one
pub data IsParams : Tokens → List RawParam → Tokens → Type 0 where
  -- `()`, which is read as `(void)`
  empty : {l : ℕ} {rest : Tokens} → IsParams (mark (codes ")") l ∷ rest) [] rest
  -- `(void)`
  nothing : {l m : ℕ} {rest : Tokens} → IsParams (name (codes "void") l ∷ mark (codes ")") m ∷ rest) [] rest
  -- at least one
  some : {ts mid rest : Tokens} {p : RawParam} {ps : List RawParam}
      → IsParam ts p mid → IsMoreParams mid ps rest → IsParams ts (p ∷ ps) rest

-- ---- what a type says of its declarator

abbrev pub is_empty_length : RawLength → Bool
is_empty_length (Written n) = false
is_empty_length Listed = true

abbrev pub listed_step : RawType-F Bool → Bool
listed_step (RawType-F.Integer t) = false
listed_step (RawType-F.PointerTo a) = false
listed_step (RawType-F.Array a n) = is_empty_length n
listed_step (RawType-F.Struct tag) = false

-- the first length of its declarator is empty
abbrev pub is_listed : RawType → Bool
is_listed = fold-RawType Bool listed_step

abbrev pub written_step : RawType-F Bool → Bool
written_step (RawType-F.Integer t) = true
written_step (RawType-F.PointerTo a) = a
written_step (RawType-F.Array a n) = not (is_empty_length n) && a
written_step (RawType-F.Struct tag) = true

-- no length of the type is left to a list
abbrev pub is_written : RawType → Bool
is_written = fold-RawType Bool written_step
