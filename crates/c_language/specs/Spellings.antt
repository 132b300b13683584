-- How names, numbers, characters and strings are spelled (ISO C99 6.4), as tests of their bytes alone.
use Rattle.std.specs.Prelude.{ℕ, ◌==◌, List, [], ◌∷◌, Bool, true, false, ◌&&◌, ◌||◌, not, codes, is_some, slice_index}
use Rattle.c_language.specs.Words.{Bytes}
use Rattle.c_language.specs.Characters.{is_digit, is_letter}
use Rattle.c_language.specs.Constants.{constant_type, is_escape, is_one_of}
use Rattle.c_language.specs.Sees.{is_keyword}
use Rattle.c_language.specs.Tokens.{is_plain, name_goes_on, number_goes_on}
use Rattle.c_language.specs.ExprGrammar.{is_plain_name}

-- each byte may go on behind the one before it
abbrev pub runs_on : (ℕ → ℕ → Bool) → ℕ → Bytes → Bool
runs_on goes_on b [] = true
runs_on goes_on b (c ∷ run) = goes_on b c && runs_on goes_on c run

-- a letter or `_`, and letters, digits and `_` (6.4.2)
abbrev pub is_name : Bytes → Bool
is_name [] = false
is_name (b ∷ run) = is_letter b && runs_on name_goes_on b run

-- a digit, what a number goes on with, and in all a constant (6.4.4.1)
abbrev pub is_number : Bytes → Bool
is_number [] = false
is_number (b ∷ run) = is_digit b && (runs_on number_goes_on b run && is_some (constant_type (b ∷ run)))

-- behind its first quote: a byte or an escape, and the other quote
abbrev pub ends_character : Bytes → Bool
ends_character [] = false
ends_character (b ∷ []) = false
ends_character (b ∷ (c ∷ [])) = is_plain 39 b && (c == 39)
ends_character (b ∷ (c ∷ (d ∷ []))) = (b == 92) && (is_escape c && (d == 39))
ends_character (b ∷ (c ∷ (d ∷ (e ∷ more)))) = false

-- a character constant (6.4.4.4)
abbrev pub is_character : Bytes → Bool
is_character [] = false
is_character (b ∷ more) = (b == 39) && ends_character more

abbrev pub is_none_left : Bytes → Bool
is_none_left [] = true
is_none_left (b ∷ more) = false

abbrev pub begins_with_digit : Bytes → Bool
begins_with_digit [] = false
begins_with_digit (b ∷ more) = is_digit b

-- behind its first quote, or there behind a backslash: bytes and escapes up to the other quote; no digit follows `\0`
abbrev pub ends_string : Bool → Bytes → Bool
ends_string behind [] = false
ends_string true (b ∷ more) = is_escape b && (not ((b == 48) && begins_with_digit more) && ends_string false more)
ends_string false (b ∷ more) = ((b == 34) && is_none_left more) || (((b == 92) && ends_string true more) || (is_plain 34 b && ends_string false more))

-- `??` and a byte that makes a trigraph of it (5.2.1.1)
abbrev pub begins_trigraph : Bytes → Bool
begins_trigraph bytes = (slice_index bytes 0 == 63) && ((slice_index bytes 1 == 63) && is_one_of (codes "=(/)'<!>-") (slice_index bytes 2))

abbrev pub has_trigraph : Bytes → Bool
has_trigraph [] = false
has_trigraph (b ∷ more) = begins_trigraph (b ∷ more) || has_trigraph more

-- a string literal with its quotes (6.4.5)
abbrev pub is_string : Bytes → Bool
is_string [] = false
is_string (b ∷ more) = (b == 34) && (ends_string false more && not (has_trigraph more))

-- ---- what they are for

-- a constant of an integer type (6.4.4)
abbrev pub is_constant : Bytes → Bool
is_constant text = is_number text || is_character text

-- a name that may be declared: no keyword
abbrev pub is_own_name : Bytes → Bool
is_own_name w = is_name w && not (is_keyword w)

-- a name of an object or a member, in an expression: no keyword, and neither NULL nor EOF
abbrev pub is_used_name : Bytes → Bool
is_used_name w = is_name w && is_plain_name w
