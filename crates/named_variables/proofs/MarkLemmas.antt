-- Sets that grow, one part after another.
use Rattle.std.proofs.Common.{◌≡◌, ℕ, List, Bool, ◌||◌, refl, sym, ap, ◌∙◌}
use Rattle.c_language.proofs.Tests.{or_assoc}
use Rattle.bit_rows.specs.Sets.{has}
use Rattle.named_variables.specs.Marks.{Adds}

-- what passes was added
pub adds_same : (old new : List Bool) (f h : ℕ → Bool) → Adds old new f → ((x : ℕ) → h x ≡ f x) → Adds old new h
adds_same old new f h adds is x = adds x ∙ ap (λ b. has old x || b) (sym (is x))

-- what passes one of two tests was added
pub adds_both : (old mid new : List Bool) (f g h : ℕ → Bool) → Adds old mid f → Adds mid new g → ((x : ℕ) → h x ≡ (f x || g x)) → Adds old new h
adds_both old mid new f g h first second is x =
    second x ∙ ap (λ b. b || g x) (first x) ∙ or_assoc (has old x) (f x) (g x) ∙ ap (λ b. has old x || b) (sym (is x))

-- one of three
pub adds_three : (old first second new : List Bool) (f g k h : ℕ → Bool) → Adds old first f → Adds first second g → Adds second new k → ((x : ℕ) → h x ≡ (f x || (g x || k x))) → Adds old new h
adds_three old first second new f g k h a b c is =
    adds_both old first new f (λ x. g x || k x) h a (adds_both first second new g k (λ x. g x || k x) b c (λ x. refl)) is

-- one of four
pub adds_four : (old first second third new : List Bool) (f g k m h : ℕ → Bool) → Adds old first f → Adds first second g → Adds second third k → Adds third new m → ((x : ℕ) → h x ≡ (f x || (g x || (k x || m x)))) → Adds old new h
adds_four old first second third new f g k m h a b c d is =
    adds_both old first new f (λ x. g x || (k x || m x)) h a (adds_three first second third new g k m (λ x. g x || (k x || m x)) b c d (λ x. refl)) is
