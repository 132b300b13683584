-- Where a value is there, and what is made of values that are.
use Rattle.std.proofs.Common.{◌≡◌, ◌≢◌, ℕ, List, [], ◌∷◌, ◌++◌, Bool, true, false, Option, Some, None, refl, sym, true≢false, arith}
use Rattle.std.proofs.lemmas.Bool.Decides.{nat_tests}
use Rattle.std.specs.Prelude.{IsSome, ◌+◌, ◌<◌, suc, not, nat_lt, length, is_none, option_and_then, cond}
use Rattle.std.specs.List.{find, position, position_or_len}
use Rattle.c_language.specs.ConstantEvaluation.{both}
use Rattle.c_language.specs.ProgramOf.{collected, optional}
use Rattle.c_language.proofs.Options.{there_map}
use Rattle.c_language.specs.Options.{IsThere}

pub is_there : {A : Type 0} (o : Option A) → IsThere o → IsSome o
is_there None h = absurd h
is_there (Some x) h = refl

pub not_none : {A : Type 0} (o : Option A) → o ≢ None → IsThere o
not_none None h = h refl
not_none (Some x) h = tt

pub there_none : {A : Type 0} (o : Option A) → is_none o ≡ false → IsThere o
there_none None h = true≢false h
there_none (Some x) h = tt

pub there_then : {A B : Type 0} (f : A → Option B) (o : Option A) → IsThere o → ((x : A) → o ≡ Some x → IsThere (f x)) → IsThere (option_and_then f o)
there_then f None h then_there = h
there_then f (Some x) h then_there = then_there x refl

pub there_both : {A B C : Type 0} (f : A → B → C) (a : Option A) (b : Option B) → IsThere a → IsThere b → IsThere (both f a b)
there_both f None b h k = h
there_both f (Some x) b h k = there_map (f x) b k

-- a part that may be missing
abbrev pub IsThereIf : {A : Type 0} → Option (Option A) → Type 0
IsThereIf None = Unit {0}
IsThereIf (Some a) = IsThere a

pub there_optional : {A : Type 0} (o : Option (Option A)) → IsThereIf o → IsThere (optional o)
there_optional None h = tt
there_optional (Some None) h = h
there_optional (Some (Some x)) h = tt

-- each value of a list is there
abbrev pub AreThere : {A : Type 0} → List (Option A) → Type 0
AreThere [] = Unit {0}
AreThere (x ∷ xs) = IsThere x × AreThere xs

pub there_collected : {A : Type 0} (xs : List (Option A)) → AreThere xs → IsThere (collected xs)
there_collected [] h = tt
there_collected (None ∷ xs) h = h.0
there_collected (Some x ∷ xs) h = there_map (λ ys. x ∷ ys) (collected xs) (there_collected xs h.1)

pub there_append : {A : Type 0} (xs ys : List (Option A)) → AreThere xs → AreThere ys → AreThere (xs ++ ys)
there_append [] ys h k = k
there_append (x ∷ xs) ys h k = (h.0, there_append xs ys h.1 k)

-- what is found stands before the end
within_step : {A : Type 0} (b : Bool) (x : A) (r : Option A) (n m : ℕ) → (IsThere r → n < m) → IsThere (cond b (Some x) r) → cond (not b) (1 + n) 0 < suc m
within_step true x r n m later h = omega arith
within_step false x r n m later h = let k = later h in omega (arith, k)

found_within : {A : Type 0} (test : A → Bool) (xs : List A) → IsThere (find test xs) → position_or_len test xs < length xs
found_within test [] h = absurd h
found_within test (x ∷ xs) h = within_step (test x) x (find test xs) (position_or_len test xs) (length xs) (found_within test xs) h

placed : (b : Bool) (n : ℕ) → b ≡ true → IsThere (cond b (Some n) None)
placed true n h = tt
placed false n h = absurd (true≢false (sym h))

-- what is found has a place
pub there_position : {A : Type 0} (test : A → Bool) (xs : List A) → IsThere (find test xs) → IsThere (position test xs)
there_position test xs h = placed (nat_lt (position_or_len test xs) (length xs)) (position_or_len test xs) (grind (arith, nat_tests, found_within test xs h))
