-- The words of the integer types (ISO C99 6.7.2).
use Rattle.std.specs.Prelude.{◌≡◌, ℕ, ◌+◌, Bool, false, ◌||◌, List, [], ◌∷◌, codes, Contains, if◌then◌else◌, slice_get, Option, Some, None, ◌&&◌}
use Rattle.std.specs.Str.{bytes_eq}
use Rattle.c_arith.specs.declared.int_type.IntType.{IntType}
use Rattle.c_arith.specs.declared.int_type.IntType.TheVariants.{Char, UChar, Short, UShort, Int, UInt, Long, ULong}
use Rattle.c_language.specs.Words.{Bytes}
use Rattle.c_language.specs.TokenForms.{Tokens, name}
use Rattle.c_language.specs.Sees.{is_kind}
use Rattle.c_language.specs.declared.token.Token.{Token}
use Rattle.c_language.specs.declared.token.TokenKind.TheVariants.{Name}

-- the spellings of a type, each in one order of its words
abbrev pub spellings : IntType → List (List Bytes)
spellings Char = (codes "char" ∷ []) ∷ (codes "signed" ∷ codes "char" ∷ []) ∷ []
spellings UChar = (codes "unsigned" ∷ codes "char" ∷ []) ∷ []
spellings Short = (codes "short" ∷ []) ∷ (codes "short" ∷ codes "int" ∷ []) ∷ (codes "signed" ∷ codes "short" ∷ []) ∷ (codes "signed" ∷ codes "short" ∷ codes "int" ∷ []) ∷ []
spellings UShort = (codes "unsigned" ∷ codes "short" ∷ []) ∷ (codes "unsigned" ∷ codes "short" ∷ codes "int" ∷ []) ∷ []
spellings Int = (codes "int" ∷ []) ∷ (codes "signed" ∷ []) ∷ (codes "signed" ∷ codes "int" ∷ []) ∷ []
spellings UInt = (codes "unsigned" ∷ []) ∷ (codes "unsigned" ∷ codes "int" ∷ []) ∷ []
spellings Long = (codes "long" ∷ []) ∷ (codes "long" ∷ codes "int" ∷ []) ∷ (codes "signed" ∷ codes "long" ∷ []) ∷ (codes "signed" ∷ codes "long" ∷ codes "int" ∷ []) ∷ []
spellings ULong = (codes "unsigned" ∷ codes "long" ∷ []) ∷ (codes "unsigned" ∷ codes "long" ∷ codes "int" ∷ []) ∷ []

-- how often a word stands in a list
abbrev pub times : Bytes → List Bytes → ℕ
times w [] = 0
times w (v ∷ vs) = (if bytes_eq w v then 1 else 0) + times w vs

-- the same words in any order: each stands as often in the one list as in the other
abbrev pub SameWords : List Bytes → List Bytes → Type 0
SameWords ws vs = (w : Bytes) → times w ws ≡ times w vs

-- the words of a type, in any order
pub data IsIntWords (ws : List Bytes) (t : IntType) : Type 0 where
  -- they are the words of one of its spellings
  spelled : {spelling : List Bytes} → Contains (spellings t) spelling → SameWords ws spelling → IsIntWords ws t

-- a word that may stand in the spelling of an integer type
abbrev pub is_int_word : Bytes → Bool
is_int_word w = bytes_eq w (codes "char") || (bytes_eq w (codes "short") || (bytes_eq w (codes "int") || (bytes_eq w (codes "long") || (bytes_eq w (codes "signed") || bytes_eq w (codes "unsigned")))))

abbrev pub is_some_int_word : Option Token → Bool
is_some_int_word None = false
is_some_int_word (Some t) = is_kind Name t && is_int_word t.text

-- the next token is such a word
unfoldable pub sees_int_word : Tokens → Bool
sees_int_word ts = is_some_int_word (slice_get ts 0)

-- the tokens are these words and then the rest
pub data AreWords : Tokens → List Bytes → Tokens → Type 0 where
  -- no words
  none : {rest : Tokens} → AreWords rest [] rest
  -- a word, and those behind it
  some : {w : Bytes} {l : ℕ} {ts rest : Tokens} {ws : List Bytes} → AreWords ts ws rest → AreWords (name w l ∷ ts) (w ∷ ws) rest

-- the tokens are all the words of an integer type, and then the rest
pub data IsIntType : Tokens → IntType → Tokens → Type 0 where
  -- no other word of a type follows
  words : {ts rest : Tokens} {ws : List Bytes} {t : IntType} → AreWords ts ws rest → IsIntWords ws t → sees_int_word rest ≡ false → IsIntType ts t rest
