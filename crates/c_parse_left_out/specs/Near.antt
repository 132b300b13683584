-- Where a construct without a production begins, looked for near the place at which reading stopped.
use Rattle.std.specs.Prelude.{ℕ, zero, suc, ◌+◌, ◌-◌, min, Bool, false, not, ◌&&◌, ◌||◌, [], ◌∷◌, length, take, drop, reverse, slice_get, Option, Some, None, if◌then◌else◌}
use Rattle.c_language.specs.TokenForms.{Tokens}
use Rattle.c_language.specs.Sees.{is_kind}
use Rattle.c_language.specs.LeftOut.{innermost, is_closing, is_bump_sign}
use Rattle.c_language.specs.declared.token.Token.{Token}
use Rattle.c_language.specs.declared.token.TokenKind.TheVariants.{Mark}
use Rattle.c_parse_left_out.specs.Naming.{names}

abbrev pub begins_between : Tokens → Tokens → Bool
begins_between before [] = false
begins_between before (t ∷ behind) = names before t behind

-- one begins at a place
unfoldable pub begins_at : Tokens → ℕ → Bool
begins_at ts at = begins_between (reverse (take at ts)) (drop at ts)

-- the place of the innermost bracket that is open before a place, and 0 where none is
unfoldable pub open_before : Tokens → ℕ → ℕ
open_before ts at = length (innermost 0 (reverse (take at ts))) - 1

-- the first of so many places, from one on, at which one begins
unfoldable pub first_from : ℕ → Tokens → ℕ → Option ℕ
first_from zero ts at = None
first_from (suc more) ts at = if begins_at ts at then Some at else first_from more ts (at + 1)

-- the first place from one on, before another, at which one begins
unfoldable pub first_within : Tokens → ℕ → ℕ → Option ℕ
first_within ts from_ to = first_from (to - from_) ts from_

abbrev pub is_some_open_mark : Option Token → Bool
is_some_open_mark None = false
is_some_open_mark (Some t) = is_kind Mark t && not (is_closing t || is_bump_sign t.text)

-- An expression may go on at a place: a mark stands before it that is no closing bracket and no `++` or `--`.
unfoldable pub may_go_on : Tokens → ℕ → Bool
may_go_on ts at = is_some_open_mark (slice_get (reverse (take at ts)) 0)

-- the place behind the last one that is looked at; behind an operand the next tokens are those of another statement
unfoldable pub end_near : Tokens → ℕ → ℕ
end_near ts stop = stop + min (length ts - stop) (if may_go_on ts stop then 3 else 1)

-- The one whose reading stops at a place of the text: a call or a struct whose bracket was closed there, a `for` whose
-- parenthesis is open there, or else the first one from five tokens before the place on.
unfoldable pub begun_near : Tokens → ℕ → Option ℕ
begun_near ts stop =
    if begins_at ts (open_before ts (stop - 1) - 1) then Some (open_before ts (stop - 1) - 1)
    else if begins_at ts (open_before ts (stop - 1)) then Some (open_before ts (stop - 1))
    else if begins_at ts (open_before ts stop - 1) then Some (open_before ts stop - 1)
    else first_within ts (stop - 5) (end_near ts stop)

-- the same of any place, where one past the end of the text is its end
unfoldable pub left_out_near : Tokens → ℕ → Option ℕ
left_out_near ts stop = begun_near ts (min stop (length ts))
