-- Decimal digits, one after another.
use Rattle.std.proofs.Common.{◌≡◌, ℕ, ◌+◌, ◌-◌, ◌*◌, ◌^◌, ◌<◌, ◌≤◌, List, [], ◌∷◌, ◌++◌, length, take, get_or, refl, sym, ap, ◌∙◌, arith, add-one}
use Rattle.std.proofs.lemmas.Bool.{eqb-false}
use Rattle.std.proofs.lemmas.List.{take_all}
use Rattle.std.proofs.lemmas.List.Elements.{All-from_get_or}
use Rattle.std.proofs.Math.Seq.{take-suc}
use Rattle.std.proofs.Math.Nat.{pow-suc}
use Rattle.std.specs.Prelude.{false, ◌==◌}
use Rattle.std.specs.Char.{IsAsciiDigit}
use Rattle.call_words.specs.Grammar.{IsNumber, decimal_from}

-- one more digit
pub decimal_from-last : (n : ℕ) (digits : List ℕ) (b : ℕ) → decimal_from n (digits ++ b ∷ []) ≡ 10 * decimal_from n digits + (b - 48)
decimal_from-last n [] b = refl
decimal_from-last n (d ∷ digits) b = decimal_from-last (10 * n + (d - 48)) digits b

pub decimal_from-next : (digits : List ℕ) (i : ℕ) → i < length digits → decimal_from 0 (take (i + 1) digits) ≡ 10 * decimal_from 0 (take i digits) + (get_or digits i 0 - 48)
decimal_from-next digits i lt = rw (add-one, take-suc digits i 0 lt) (decimal_from-last 0 (take i digits) (get_or digits i 0))

-- a number of so many digits, and one more digit
pub bound-next : (n i d : ℕ) → n < 10 ^ i → d < 10 → 10 * n + d < 10 ^ (i + 1)
bound-next n i d lt digit = rw (add-one, pow-suc 10 i) (omega arith)

-- one to ten bytes that were all found to be digits are a number, whose value was found with them
pub number_read : (digits : List ℕ) (i n : ℕ) → false ≡ (length digits == 0) → length digits ≤ 10 → length digits ≤ i → n ≡ decimal_from 0 (take i digits) → ((k : ℕ) → k < i → IsAsciiDigit (get_or digits k 0)) → IsNumber digits × (n ≡ decimal_from 0 digits)
number_read digits i n some few end value all = (
  record {
    not_empty = omega (arith, eqb-false (length digits) 0 (sym some));
    at_most_ten = few;
    all_digits = All-from_get_or IsAsciiDigit digits 0 (λ k lt. all k (omega arith));
  },
  value ∙ ap (decimal_from 0) (take_all i digits end),
)
