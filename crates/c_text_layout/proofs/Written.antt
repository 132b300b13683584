-- Tokens that can be written: each has a text of its kind.
use Rattle.std.specs.Prelude.{◌≡◌, ℕ, true, ◌∷◌, ◌++◌, codes}
use Rattle.c_language.specs.Words.{Bytes}
use Rattle.c_language.specs.Characters.{is_digit, is_letter}
use Rattle.c_language.specs.Constants.{IsConstant}
use Rattle.c_language.specs.Tokens.{name_goes_on, number_goes_on, IsCharacter, IsLiteral, LacksTrigraph, AreRun}
use Rattle.c_language.specs.declared.token.TokenKind.{TokenKind}
use Rattle.c_language.specs.declared.token.TokenKind.TheVariants.{Name, Number, Character, Str, Mark, Include, Directive}

-- the text of a token has the form of its kind, whatever follows it (ISO C99 6.4)
pub data HasForm : TokenKind → Bytes → Type 0 where
  name : {b : ℕ} {run : Bytes} → is_letter b ≡ true → AreRun name_goes_on b run → HasForm Name (b ∷ run)
  number : {b : ℕ} {run : Bytes} → is_digit b ≡ true → AreRun number_goes_on b run → IsConstant (b ∷ run) → HasForm Number (b ∷ run)
  character : {text : Bytes} → IsCharacter text → HasForm Character text
  string : {inside : Bytes} → IsLiteral inside → LacksTrigraph inside → HasForm Str (codes "\"" ++ inside)
  mark : {text : Bytes} → HasForm Mark text
  include : {text : Bytes} → HasForm Include text
  directive : {text : Bytes} → HasForm Directive text
