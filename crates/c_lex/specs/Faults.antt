-- What the bytes of a text show where it has no tokens.
use Rattle.std.specs.Prelude.{◌≡◌, ◌≢◌, ℕ, ◌+◌, ◌<◌, ◌∷◌, ◌++◌, true, false, codes}
use Rattle.c_language.specs.Words.{Bytes}
use Rattle.c_language.specs.Characters.{is_digit, is_word_byte}
use Rattle.c_language.specs.Constants.{IsConstant, is_one_of}
use Rattle.c_language.specs.Tokens.{is_blank, has_feed, line_feeds, joins_next, number_goes_on, AreJoins, LacksEnd, IsSpace, IsRun, IsCharacter, IsLiteral, IsLongest, IsToken}
use Rattle.c_language.specs.declared.token.TokenKind.{TokenKind}
use Rattle.c_language.specs.declared.token.Before.{Before}
use Rattle.c_language.specs.declared.token.Before.TheVariants.{Token}
use Rattle.c_lex.specs.declared.fault.LexFault.{LexFault}
use Rattle.c_lex.specs.declared.fault.LexFault.TheVariants.{BadByte, BadNumber, OpenComment}

-- a byte that is no blank and begins no name, number, character, string, include or directive
pub record IsStray (before : Before) (b : ℕ) : Type 0 where
  pub no_blank : is_blank b ≡ false
  pub no_word : is_word_byte b ≡ false
  pub no_quote : b ≢ 39
  pub no_double_quote : b ≢ 34
  pub no_line : b ≡ 35 → before ≡ Token

-- a bad byte in the line of the first byte
pub data IsBadByte (before : Before) : Bytes → Type 0 where
  -- a byte that begins nothing, not even a mark
  stray : {b : ℕ} {rest : Bytes} → IsStray before b → IsLongest 0 (b ∷ rest) → IsBadByte before (b ∷ rest)
  -- a quote that begins no character constant
  character : {rest : Bytes} → ((text more : Bytes) → IsCharacter text → codes "'" ++ rest ≢ text ++ more) → IsBadByte before (codes "'" ++ rest)
  -- a quote that begins no string literal
  string : {rest : Bytes} → ((text more : Bytes) → IsLiteral text → rest ≢ text ++ more) → IsBadByte before (codes "\"" ++ rest)
  -- a string literal that holds a trigraph
  trigraph : (b : ℕ) (text rest front back : Bytes) → IsLiteral text → text ≡ front ++ (codes "??" ++ (b ∷ back)) → is_one_of (codes "=(/)'<!>-") b ≡ true → IsBadByte before (codes "\"" ++ (text ++ rest))
  -- a `//` comment whose line end is joined to it
  joined : (inside rest : Bytes) → has_feed inside ≡ false → joins_next inside ≡ true → IsBadByte before (codes "//" ++ (inside ++ (codes "\n" ++ rest)))

-- what stands where the tokens can't go on: what stands before the bytes in their line, and the number of that line
pub data IsFault : Before → ℕ → Bytes → LexFault → Type 0 where
  bad_byte : {before : Before} {line : ℕ} {bytes : Bytes} → IsBadByte before bytes → IsFault before line bytes (BadByte line)
  -- one of the joined line ends between a `*` and a `/` in a comment
  split : {before : Before} {line : ℕ} (inside rest front joins back : Bytes) (n : ℕ) → LacksEnd inside → codes "*" ++ inside ≡ front ++ (codes "*" ++ (joins ++ (codes "/" ++ back))) → AreJoins joins → n < line_feeds joins
      → IsFault before line (codes "/*" ++ (inside ++ (codes "*/" ++ rest))) (BadByte (line + line_feeds front + n))
  bad_number : {before : Before} {line : ℕ} (b : ℕ) (run rest : Bytes) → is_digit b ≡ true → IsRun number_goes_on b run rest → ¬ IsConstant (b ∷ run) → IsFault before line (b ∷ (run ++ rest)) (BadNumber line)
  open_comment : {before : Before} {line : ℕ} {inside : Bytes} → LacksEnd inside → IsFault before line (codes "/*" ++ inside) (OpenComment line)
  space : {before after : Before} {line : ℕ} {x : LexFault} (some rest : Bytes) → IsSpace before rest some after → IsFault after (line + line_feeds some) rest x → IsFault before line (some ++ rest) x
  token : {before : Before} {line : ℕ} {kind : TokenKind} {text : Bytes} {x : LexFault} (own rest : Bytes) → IsToken before kind own text rest → IsFault Token line rest x → IsFault before line (own ++ rest) x
