-- Lists of tokens, and a token of each kind.
use Rattle.std.specs.Prelude.{ℕ, List, slice_get}
use Rattle.std.specs.Option.{option_map_or}
use Rattle.c_language.specs.Words.{Bytes}
use Rattle.c_language.specs.declared.token.Token.{Token}
use Rattle.c_language.specs.declared.token.TokenKind.{TokenKind}
use Rattle.c_language.specs.declared.token.TokenKind.TheVariants.{Name, Number, Character, Str, Mark, Directive}

abbrev pub Tokens : Type 0
Tokens = List Token

abbrev pub of_kind : TokenKind → Bytes → ℕ → Token
of_kind kind text line = record { kind = kind; text = text; line = line }

abbrev pub name : Bytes → ℕ → Token
name = of_kind Name

abbrev pub number : Bytes → ℕ → Token
number = of_kind Number

abbrev pub character : Bytes → ℕ → Token
character = of_kind Character

abbrev pub string : Bytes → ℕ → Token
string = of_kind Str

abbrev pub mark : Bytes → ℕ → Token
mark = of_kind Mark

abbrev pub directive : Bytes → ℕ → Token
directive = of_kind Directive

-- the line of the first token, or 0 where there is none
abbrev pub line_of : Tokens → ℕ
line_of ts = option_map_or (λ (t : Token). t.line) (slice_get ts 0) 0
