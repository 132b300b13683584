-- Control by nesting: which test decides, each time, whether a statement is done (Ferrante, Ottenstein and Warren 1987).
use Rattle.std.specs.Prelude.{◌≡◌, ℕ, ℤ, Option, Some, ◌⊎◌}
use Rattle.c_language.specs.Code.{Code, End, Opens, Plain, Fork, Loop, Leaves, Call}

-- the function's entry, or a test
abbrev pub Controller : Type 0
Controller = Option ℕ

-- statement i has the controller v, in a list whose own statements have the controller k; a loop's test has itself too.
-- A do stands as its body and a loop behind it, so that its body has the controllers of both
abbrev pub Controls : Code → Controller → Controller → ℕ → Type 0
Controls End k v i = ⊥
Controls (Opens x r) k v i = Controls r k v i
Controls (Plain j a r) k v i = ((v ≡ k) × (i ≡ j)) ⊎ Controls r k v i
Controls (Fork j e c r) k v i = ((v ≡ k) × (i ≡ j)) ⊎ (((x : ℤ) × Controls (c x) (Some j) v i) ⊎ Controls r k v i)
Controls (Loop j e b r) k v i = ((v ≡ k) × (i ≡ j)) ⊎ (((v ≡ Some j) × (i ≡ j)) ⊎ (Controls b (Some j) v i ⊎ Controls r k v i))
Controls (Leaves xs r) k v i = Controls r k v i
Controls (Call j to f args r) k v i = ((v ≡ k) × (i ≡ j)) ⊎ Controls r k v i
