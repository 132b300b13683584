-- The header of a slice is a comment line, in which no star and no line feed stands.
use Rattle.std.proofs.Common.{◌≡◌, ℕ, ◌+◌, ◌%◌, ◌^◌, ◌<◌, Bool, true, List, [], ◌∷◌, ◌++◌, refl, ap, ◌∙◌, append_assoc, arith}
use Rattle.std.specs.Prelude.{codes, not, ◌==◌}
use Rattle.std.specs.List.{list_all}
use Rattle.std.specs.Fmt.{decimal}
use Rattle.std.proofs.lemmas.Bool.{and_from}
use Rattle.std.proofs.lemmas.Bool.Decides.{nat_tests}
use Rattle.std.proofs.lemmas.Fmt.{decimal_by_steps}
use Rattle.c_language.specs.Words.{Bytes}
use Rattle.c_language.specs.Tokens.{is_feed}
use Rattle.c_language.proofs.Lists.{all_append}
use Rattle.c_print.specs.Feedless.{feedless}
use Rattle.c_print_laws.specs.ReadAgain.{starless, comment_line}
use Rattle.slice_engine.specs.Slice.{spaced, header}

-- each number is below 2 ^ 64
abbrev pub AreShort : List ℕ → Type 0
AreShort [] = Unit {0}
AreShort (k ∷ ks) = (k < 2 ^ 64) × AreShort ks

-- what stands in the header's comment
abbrev pub inside : ℕ → List ℕ → Bytes
inside line lines = codes " slice " ++ (decimal line ++ (codes ":" ++ (spaced lines ++ codes " ")))

-- bytes that pass a test, which each digit passes
module _ (test : ℕ → Bool) (digit : (n : ℕ) → n < 10 → test (48 + n) ≡ true) where
  one_passes : (n : ℕ) → n < 10 → list_all test ((48 + n) ∷ []) ≡ true
  one_passes n lt = and_from (test (48 + n)) true (digit n lt) refl

  decimal_passes : (n : ℕ) → n < 2 ^ 64 → list_all test (decimal n) ≡ true
  decimal_passes n lt =
      decimal_by_steps (λ n ds. list_all test ds ≡ true) one_passes (λ n ds le h. all_append test ds ((48 + n % 10) ∷ []) h (one_passes (n % 10) (omega arith))) n lt

  spaced_passes : (ks : List ℕ) → test 32 ≡ true → AreShort ks → list_all test (spaced ks) ≡ true
  spaced_passes [] space h = refl
  spaced_passes (k ∷ ks) space h =
      all_append test (codes " ") _ (and_from (test 32) true space refl) (all_append test (decimal k) (spaced ks) (decimal_passes k h.0) (spaced_passes ks space h.1))

  pub inside_passes : (line : ℕ) (lines : List ℕ) → list_all test (codes " slice ") ≡ true → list_all test (codes ":") ≡ true → test 32 ≡ true → line < 2 ^ 64 → AreShort lines → list_all test (inside line lines) ≡ true
  inside_passes line lines word colon space lt short =
      all_append test (codes " slice ") _ word (all_append test (decimal line) _ (decimal_passes line lt) (all_append test (codes ":") _ colon (all_append test (spaced lines) (codes " ") (spaced_passes lines space short) (and_from (test 32) true space refl))))

not_feed : (n : ℕ) → n < 10 → not (is_feed (48 + n)) ≡ true
not_feed n lt = grind (arith, nat_tests)

not_star : (n : ℕ) → n < 10 → not ((48 + n) == 42) ≡ true
not_star n lt = grind (arith, nat_tests)

pub inside_feedless : (line : ℕ) (lines : List ℕ) → line < 2 ^ 64 → AreShort lines → feedless (inside line lines) ≡ true
inside_feedless line lines lt short = inside_passes (λ b. not (is_feed b)) not_feed line lines refl refl refl lt short

pub inside_starless : (line : ℕ) (lines : List ℕ) → line < 2 ^ 64 → AreShort lines → starless (inside line lines) ≡ true
inside_starless line lines lt short = inside_passes (λ b. not (b == 42)) not_star line lines refl refl refl lt short

pub header_is_comment : (line : ℕ) (lines : List ℕ) → comment_line (inside line lines) ≡ header line lines
header_is_comment line lines =
    ap (λ bs. codes "/* slice " ++ bs) (append_assoc (decimal line) (codes ":" ++ (spaced lines ++ codes " ")) (codes "*/\n") ∙ ap (λ bs. decimal line ++ (codes ":" ++ bs)) (append_assoc (spaced lines) (codes " ") (codes "*/\n")))
