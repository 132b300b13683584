-- What reading from left to right gives, and the steps that all reading is made of.
use Rattle.std.specs.Prelude.{◌≡◌, ℕ, not, ◌&&◌, [], ◌∷◌, length, drop, Option, Some, None, Result, Ok, Err, if◌then◌else◌}
use Rattle.c_language.specs.Words.{Bytes}
use Rattle.c_language.specs.TokenForms.{Tokens}
use Rattle.c_language.specs.Sees.{sees, is_kind, is_keyword}
use Rattle.c_language.specs.declared.token.Token.{Token}
use Rattle.c_language.specs.declared.token.TokenKind.{TokenKind}
use Rattle.c_language.specs.declared.token.TokenKind.TheVariants.{Name, Mark}
use Rattle.c_parse_expr.specs.declared.fault.Stop.{Stop}
use Rattle.c_parse_expr.specs.declared.fault.Stop.TheVariants as stop

-- why no tree is read: none goes on where so many tokens are left, or the tokens nest too deep
pub data Fault : Type 0 where
  Syntax : ℕ → Fault
  Deep : Fault

-- what is read, with the tokens behind it
abbrev pub Outcome : Type 0 → Type 0
Outcome A = Result (A × Tokens) Fault

abbrev pub Parser : Type 0 → Type 0
Parser A = Tokens → Outcome A

-- no tree goes on here
abbrev pub refused : {A : Type 0} → Parser A
refused ts = Err (Syntax (length ts))

-- one step after another
abbrev pub and_then : {A B : Type 0} → Outcome A → (A → Parser B) → Outcome B
and_then (Ok p) f = f p.0 p.1
and_then (Err e) f = Err e

-- one way where there is none, and another where there is one
abbrev pub by_option : {A B : Type 0} → Option A → B → (A → B) → B
by_option None none some = none
by_option (Some x) none some = some x

-- what the text of a token of this kind stands for
abbrev pub text_by : {A : Type 0} → TokenKind → (Bytes → Option A) → Option Token → Option A
text_by kind f None = None
text_by kind f (Some t) = if is_kind kind t then f t.text else None

-- the next token is this mark
unfoldable pub expect : Bytes → Parser (Unit {0})
expect text ts = if sees Mark text ts then Ok (tt, drop 1 ts) else refused ts

-- the next token is a name that is no keyword
unfoldable pub read_name : Parser Bytes
read_name [] = refused []
read_name (t ∷ ts) = if is_kind Name t && not (is_keyword t.text) then Ok (t.text, ts) else refused (t ∷ ts)

-- what a function that reads answers: the outcome, unless memory runs out
abbrev pub Reads : {A : Type 0} → Outcome A → Result A Stop → Tokens → Type 0
Reads outcome (Ok a) rest = outcome ≡ Ok (a, rest)
Reads outcome (Err stop.Memory) rest = Unit {0}
Reads outcome (Err (stop.Syntax left)) rest = outcome ≡ Err (Syntax left)
Reads outcome (Err (stop.Deep left)) rest = outcome ≡ Err Deep
