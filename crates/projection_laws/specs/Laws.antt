-- What is kept of a program stands in what is kept, told in two ways.
use Rattle.std.specs.Prelude.{◌≡◌, ℕ, Bool, true}
use Rattle.c_tree.specs.declared.program.Program.{Program}
use Rattle.projection_laws.specs.Nested.{IsNested, stands_in}

-- where each statement is kept in which a kept one stands directly, each is kept in which a kept one stands anyhow
abbrev pub StandingIsNested : Type 0
StandingIsNested =
    (p : Program) (keeps : ℕ → Bool) → ((outer inner : ℕ) → stands_in p outer inner ≡ true → keeps inner ≡ true → keeps outer ≡ true) → IsNested keeps p

-- and the other way round
abbrev pub NestedIsStanding : Type 0
NestedIsStanding =
    (p : Program) (keeps : ℕ → Bool) → IsNested keeps p → (outer inner : ℕ) → stands_in p outer inner ≡ true → keeps inner ≡ true → keeps outer ≡ true
