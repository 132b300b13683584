-- Whether a number is a constant, as it is computed.
use Rattle.std.specs.Prelude.{ℕ, ◌+◌, ◌*◌, ◌==◌, nat_le, nat_lt, length, Bool, ◌&&◌, ◌||◌, if◌then◌else◌, Option, Some, None, slice_index, fold}
use Rattle.std.specs.List.{prefix_len}
use Rattle.c_language.specs.Words.{Bytes}
use Rattle.c_language.specs.Constants.{digit_value, is_u, is_l}

-- how many digits of a base stand at the front
abbrev pub digits_len : ℕ → Bytes → ℕ
digits_len n bytes = prefix_len (λ b. nat_lt (digit_value b) n) bytes

-- the value of digits behind a number, which stays where it is above that of every type
abbrev pub capped : ℕ → ℕ → Bytes → ℕ
capped n v ds = fold (λ v d. if nat_le v 18446744073709551615 then v * n + digit_value d else v) v ds

-- the greatest value of a constant without `u`
abbrev pub plain_most : Bool → ℕ
plain_most is_decimal = if is_decimal then 9223372036854775807 else 18446744073709551615

-- the greatest value of a constant with a suffix, by its length and its bytes
abbrev pub most_by : Bool → ℕ → ℕ → ℕ → Option ℕ
most_by is_decimal n a b =
    if n == 0 then Some (plain_most is_decimal)
    else (if n == 1 then (if is_u a then Some 18446744073709551615 else (if is_l a then Some (plain_most is_decimal) else None))
    else (if (n == 2) && ((is_u a && is_l b) || (is_l a && is_u b)) then Some 18446744073709551615 else None))

abbrev pub most : Bool → Bytes → Option ℕ
most is_decimal suffix = most_by is_decimal (length suffix) (slice_index suffix 0) (slice_index suffix 1)
