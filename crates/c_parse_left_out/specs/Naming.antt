-- Which tokens begin a construct that has no production, told by the tokens on both sides.
use Rattle.std.specs.Prelude.{Bool, false, ◌&&◌, ◌||◌, ◌==◌, not, drop, codes, slice_get, if◌then◌else◌}
use Rattle.std.specs.Str.{bytes_eq}
use Rattle.c_language.specs.Words.{Bytes}
use Rattle.c_language.specs.TokenForms.{Tokens}
use Rattle.c_language.specs.Sees.{sees, sees_second, is_keyword}
use Rattle.c_language.specs.LeftOut as grammar
use Rattle.c_language.specs.declared.token.Token.{Token}
use Rattle.c_language.specs.declared.token.TokenKind.{TokenKind}
use Rattle.c_language.specs.declared.token.TokenKind.TheVariants.{Name, Number, Character, Str, Mark, Include, Directive}

-- a label, or a call that is no statement
unfoldable pub names_operand : Bytes → Tokens → Tokens → Bool
names_operand w before behind =
    not (is_keyword w)
    && ((sees Mark (codes ":") behind && (grammar.begins_statement before && (grammar.owed_colons before == 0)))
    || (sees Mark (codes "(") behind && grammar.is_inner_call before behind))

-- a word that begins a construct between these tokens
unfoldable pub names_word : Bytes → Tokens → Tokens → Bool
names_word w before behind =
    if bytes_eq w (codes "break") then not (grammar.is_own_break before behind)
    else if bytes_eq w (codes "long") then grammar.holds_long before
    else if bytes_eq w (codes "static") then not (grammar.open_braces before == 0) && not (grammar.is_in_struct before)
    else if bytes_eq w (codes "sizeof") then not (grammar.is_within (codes "malloc") before)
    else if bytes_eq w (codes "void") then not (grammar.is_void_place before behind)
    else if bytes_eq w (codes "for") then grammar.lacks_condition behind
    else names_operand w before behind

-- a struct that is defined inside another declaration
unfoldable pub names_struct : Tokens → Tokens → Bool
names_struct before behind =
    sees Name (codes "struct") before
    || (grammar.is_some_kind Name (slice_get before 0) && (sees_second Name (codes "struct") before && grammar.is_inner_definition (drop 2 before) behind))

-- an operator of an assignment, `++` or `--` behind these tokens
unfoldable pub names_operator : Bytes → Tokens → Bool
names_operator w before =
    if grammar.is_assignment_sign w then grammar.is_inner_effect before
    else if grammar.is_bump_sign w then grammar.is_inner_effect before || grammar.is_starred before
    else false

-- a mark that begins a construct between these tokens
unfoldable pub names_mark : Bytes → Tokens → Tokens → Bool
names_mark w before behind =
    if bytes_eq w (codes "(") then grammar.is_pointer_call before || grammar.ends_type (grammar.behind_stars before)
    else if bytes_eq w (codes ",") then grammar.is_comma_place before
    else if bytes_eq w (codes ":") then grammar.is_in_struct before
    else if bytes_eq w (codes "*") then grammar.opens_cast before && grammar.casts_other behind
    else if bytes_eq w (codes "[") then sees Mark (codes "]") before && grammar.is_in_param before
    else if bytes_eq w (codes "{") then names_struct before behind
    else names_operator w before

abbrev pub names_by : TokenKind → Bytes → Tokens → Tokens → Bool
names_by Name w before behind = names_word w before behind
names_by Mark w before behind = names_mark w before behind
names_by Number w before behind = false
names_by Character w before behind = false
names_by Str w before behind = false
names_by Include w before behind = false
names_by Directive w before behind = false

-- the token begins a construct between these tokens
abbrev pub names : Tokens → Token → Tokens → Bool
names before t behind = names_by t.kind t.text before behind
