-- Looking for a construct that is told by its tokens, from left to right.
use Rattle.std.specs.Prelude.{ℕ, ◌+◌, ◌-◌, Bool, true, false, ◌&&◌, ◌||◌, ◌==◌, not, [], ◌∷◌, codes, Option, Some, None, if◌then◌else◌}
use Rattle.std.specs.Str.{bytes_eq}
use Rattle.c_language.specs.Words.{Bytes}
use Rattle.c_language.specs.TokenForms.{Tokens}
use Rattle.c_language.specs.Sees.{is_token}
use Rattle.c_language.specs.LeftOut.{is_left_out_word, open_braces, ends_function, begins_label, begins_format, names_function, begins_param, names_param}
use Rattle.c_language.specs.declared.token.Token.{Token}
use Rattle.c_language.specs.declared.token.TokenKind.{TokenKind}
use Rattle.c_language.specs.declared.token.TokenKind.TheVariants.{Name, Number, Character, Str, Mark, Include, Directive}

-- a word that begins a construct between these tokens
unfoldable pub told_word : Bytes → Tokens → Tokens → Bool
told_word w before behind =
    if is_left_out_word w then true
    else if bytes_eq w (codes "return") then not (ends_function before behind)
    else if bytes_eq w (codes "case") || bytes_eq w (codes "default") then not (begins_label before)
    else if bytes_eq w (codes "struct") then names_function behind || ((open_braces before == 0) && (begins_param before && names_param behind))
    else false

abbrev pub told_by : TokenKind → Bytes → Tokens → Tokens → Bool
told_by Name w before behind = told_word w before behind
told_by Number w before behind = false
told_by Character w before behind = false
told_by Str w before behind = not (begins_format before)
told_by Mark w before behind = bytes_eq w (codes "...")
told_by Include w before behind = false
told_by Directive w before behind = true

-- the token begins a construct between these tokens
abbrev pub told : Tokens → Token → Tokens → Bool
told before t behind = told_by t.kind t.text before behind

-- where the first such token stands, counted from a number
unfoldable pub first_told : ℕ → Tokens → Tokens → Option ℕ
first_told at before [] = None
first_told at before (t ∷ ts) = if told before t ts then Some at else first_told (at + 1) (t ∷ before) ts

-- how many braces are open behind a token, where so many were before it
abbrev pub braces_behind : Token → ℕ → ℕ
braces_behind t open_ = if is_token Mark (codes "{") t then open_ + 1 else if is_token Mark (codes "}") t then open_ - 1 else open_
