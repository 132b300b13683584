-- Where each variable that is named passes a test.
use Rattle.std.proofs.Common.{◌≡◌, ℕ, Bool, true, ◌||◌}
use Rattle.std.proofs.lemmas.Bool.{or_left, or_right}

-- each named variable passes the test
abbrev pub NamesPass : (ℕ → Bool) → (ℕ → Bool) → Type 0
NamesPass named test = (x : ℕ) → named x ≡ true → test x ≡ true

pub left_pass : (a b : ℕ → Bool) {test : ℕ → Bool} → NamesPass (λ x. a x || b x) test → NamesPass a test
left_pass a b h x n = h x (or_left (a x) (b x) n)

pub right_pass : (a b : ℕ → Bool) {test : ℕ → Bool} → NamesPass (λ x. a x || b x) test → NamesPass b test
right_pass a b h x n = h x (or_right (a x) (b x) n)
