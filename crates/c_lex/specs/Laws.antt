-- What the definition of tokens gives, in plain words: each token is the longest of its kind, and the tokens with the space
-- between them are the text.
use Rattle.std.specs.Prelude.{◌≡◌, ℕ, ◌+◌, ◌≤◌, [], ◌∷◌, ◌++◌, length, true, codes}
use Rattle.c_language.specs.Words.{Bytes}
use Rattle.c_language.specs.Characters.{is_digit, is_letter}
use Rattle.c_language.specs.TokenForms.{Tokens, of_kind}
use Rattle.c_language.specs.Tokens.{line_feeds, name_goes_on, number_goes_on, is_mark, IsSpace, IsCharacter, IsLiteral, IsTokenText, IsToken, AreTokensOf, AreRun}
use Rattle.c_language.specs.declared.token.TokenKind.{TokenKind}
use Rattle.c_language.specs.declared.token.TokenKind.TheVariants.{Name, Number, Character, Str, Mark}
use Rattle.c_language.specs.declared.token.Before.{Before}

-- the form of a kind, whatever follows
pub data HasForm : TokenKind → Bytes → Type 0 where
  name : {b : ℕ} {run : Bytes} → is_letter b ≡ true → AreRun name_goes_on b run → HasForm Name (b ∷ run)
  number : {b : ℕ} {run : Bytes} → is_digit b ≡ true → AreRun number_goes_on b run → HasForm Number (b ∷ run)
  character : {text : Bytes} → IsCharacter text → HasForm Character text
  string : {more : Bytes} → IsLiteral more → HasForm Str (codes "\"" ++ more)
  mark : {text : Bytes} → is_mark text ≡ true → HasForm Mark text

-- white space and comments alone, before the rest
pub data AreSpaces : Before → Bytes → Bytes → Before → Type 0 where
  none : {before : Before} {rest : Bytes} → AreSpaces before [] rest before
  more : {before between after : Before} {some gap rest : Bytes} → IsSpace before (gap ++ rest) some between → AreSpaces between gap rest after → AreSpaces before (some ++ gap) rest after

-- behind the front of a text, the tokens stand in this order, each with its own bytes and on the line after the line feeds before it, and nothing but white space and comments stands between them
pub data AreSpread : Bytes → Bytes → Tokens → Type 0 where
  end : {front gap : Bytes} {before after : Before} → AreSpaces before gap [] after → AreSpread front gap []
  next : {front gap own text rest : Bytes} {before at : Before} {kind : TokenKind} {ts : Tokens} → AreSpaces before gap (own ++ rest) at → IsToken at kind own text rest → AreSpread (front ++ (gap ++ own)) rest ts
      → AreSpread front (gap ++ (own ++ rest)) (of_kind kind text (1 + line_feeds (front ++ gap)) ∷ ts)

-- what stands in a text where a token stands, and has the form of the token's kind, isn't longer than the token
abbrev pub TokensAreLongest : Type 0
TokensAreLongest = (kind : TokenKind) (text rest other back : Bytes) → IsTokenText kind text rest → HasForm kind other → text ++ rest ≡ other ++ back → length other ≤ length text

-- the tokens of a text are its bytes in order, with space between them alone, each with the line on which it begins
abbrev pub TokensAreSpread : Type 0
TokensAreSpread = (text : Bytes) (ts : Tokens) → AreTokensOf text ts → AreSpread [] text ts
