-- What a search through the tokens around a token makes of each of them.
use Rattle.std.specs.Prelude.{ℕ, ◌+◌, ◌-◌, Bool, ◌&&◌, ◌||◌, ◌==◌, not, List, [], ◌∷◌, codes, if◌then◌else◌}
use Rattle.c_language.specs.Words.{Bytes}
use Rattle.c_language.specs.Sees.{is_token}
use Rattle.c_language.specs.LeftOut as grammar
use Rattle.c_language.specs.declared.token.Token.{Token}
use Rattle.c_language.specs.declared.token.TokenKind.TheVariants.{Mark}
use Rattle.c_parse_left_out.specs.declared.around.Sought.{Sought}
use Rattle.c_parse_left_out.specs.declared.around.Sought.TheVariants.{Effect, TypeWord, Case}

abbrev pub early_assignment_signs : List Bytes
early_assignment_signs = codes "=" ∷ codes "+=" ∷ codes "-=" ∷ codes "*=" ∷ codes "/=" ∷ codes "%=" ∷ []

abbrev pub late_assignment_signs : List Bytes
late_assignment_signs = codes "&=" ∷ codes "|=" ∷ codes "^=" ∷ codes "<<=" ∷ codes ">>=" ∷ []

abbrev pub found_by : Sought → Token → Bool
found_by Effect = grammar.is_effect
found_by TypeWord = grammar.is_type_word
found_by Case = grammar.is_case

abbrev pub ended_by : Sought → Token → Bool
ended_by Effect = grammar.ends_effect
ended_by TypeWord = grammar.ends_declaration
ended_by Case = grammar.ends_label

-- how many colons are owed behind a token, where so many were before it
abbrev pub owed_behind : Token → ℕ → ℕ
owed_behind t owed =
    if grammar.owes_colon t then owed + 1
    else if is_token Mark (codes ":") t then owed - 1
    else if grammar.ends_statement t then 0
    else owed

-- how many brackets are closed behind a token, where so many were before it
abbrev pub closed_behind : Token → ℕ → ℕ
closed_behind t closed = if grammar.is_closing t then closed + 1 else if grammar.is_opening t then closed - 1 else closed

-- a search back through a statement, with so many brackets closed, ends at a token
abbrev pub stops : (Token → Bool) → (Token → Bool) → ℕ → Token → Bool
stops found ends closed t =
    if grammar.is_closing t then (closed == 0) && is_token Mark (codes "}") t
    else (closed == 0) && (grammar.is_opening t || (found t || ends t))

-- a search that ends at a token has found it
abbrev pub finds : (Token → Bool) → Token → Bool
finds found t = not (grammar.is_closing t) && (not (grammar.is_opening t) && found t)
