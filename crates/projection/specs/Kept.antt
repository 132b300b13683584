-- What is kept of a program.
use Rattle.std.specs.Prelude.{ℕ, zero, suc, Bool, if◌then◌else◌, List, [], ◌∷◌}

-- Which words of a program's statements are kept. A statement, and the call of a function of the program, has its number; a call's arguments
-- are counted from 0.
pub record KeptWords : Type 0 where
  pub statement : ℕ → Bool
  -- whether what the call of a statement gives is still stored where it was
  pub result : ℕ → Bool
  -- whether the call of a statement keeps the argument at a place
  pub argument : ℕ → ℕ → Bool

-- What is kept, where functions are told by their numbers, or in a text by their names. Parameters are counted from 0.
pub record Kept (F : Type 0) : Type 0 where
  pub variable : ℕ → Bool
  pub statement : ℕ → Bool
  -- whether what the call of a statement gives is still stored where it was
  pub result : ℕ → Bool
  -- whether the call of a statement keeps the argument at a place
  pub argument : ℕ → ℕ → Bool
  pub function : F → Bool
  -- whether a function keeps the parameter at a place
  pub parameter : F → ℕ → Bool
  -- whether a function that gives a result does so still
  pub gives : F → Bool

-- the members of a list whose places pass the test, where the first of the list is at place n
abbrev pub chosen : {A : Type 0} → (ℕ → Bool) → ℕ → List A → List A
chosen test n [] = []
chosen test n (x ∷ xs) = if test n then x ∷ chosen test (suc n) xs else chosen test (suc n) xs
