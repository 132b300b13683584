-- The projection of a list to what is kept, as code: what is left of what it does.
use Rattle.std.specs.Prelude.{◌≡◌, ℕ, ℤ, List, [], ◌∷◌, map, Bool, false, option_map}
use Rattle.std.specs.List.{list_any}
use Rattle.c_language.specs.Code.{Act, Begins, Sets, Bumps, Fetches, Writes, Prints, Allocates, Frees, Returns, Tests, Code, End, Opens, Plain, Fork, Loop, Leaves, Call, leave, either}
use Rattle.projection.specs.Kept.{Kept, chosen}
use Rattle.projection.specs.Projection.{if_so}
use Rattle.projection.specs.Renumbering.{renamed, renamed_init, renamed_target, renamed_amount}
use Rattle.simulation.specs.Places.{kept_target}

-- other numbers for the variables of an act
abbrev pub renamed_act : (ℕ → ℕ) → Act → Act
renamed_act f (Begins x i) = Begins (f x) (renamed_init f i)
renamed_act f (Sets left op right) = Sets (renamed f left) op (renamed f right)
renamed_act f (Bumps left up) = Bumps (renamed f left) up
renamed_act f (Fetches to) = Fetches (renamed_target f to)
renamed_act f (Writes a) = Writes (renamed f a)
renamed_act f (Prints format args) = Prints format (map (renamed f) args)
renamed_act f (Allocates to n) = Allocates (renamed_target f to) (renamed_amount f n)
renamed_act f (Frees a) = Frees (renamed f a)
renamed_act f (Returns a) = Returns (option_map (renamed f) a)
renamed_act f (Tests a) = Tests (renamed f a)

-- the numbers that variables, statements and functions of a program have in its slice, where they stay
pub record Numbering : Type 0 where
  pub variable : ℕ → ℕ
  pub statement : ℕ → ℕ
  pub function : ℕ → ℕ

module _ (k : Kept ℕ) where
  -- a move without an act that is kept: a variable that stays begins, or one of those that are gone stays
  abbrev pub keeps_move : Code → Bool
  keeps_move End = false
  keeps_move (Opens x r) = k.variable x
  keeps_move (Plain i a r) = false
  keeps_move (Fork i e c r) = false
  keeps_move (Loop i e b r) = false
  keeps_move (Leaves xs r) = list_any k.variable xs
  keeps_move (Call i to f args r) = false

module _ (k : Kept ℕ) (new : Numbering) where
  -- the variables of a block that stay
  abbrev pub renamed_all : List ℕ → List ℕ
  renamed_all [] = []
  renamed_all (x ∷ xs) = if_so (k.variable x) (new.variable x ∷ renamed_all xs) (renamed_all xs)

  -- variables that stay are declared, and kept acts and calls are done, by their new numbers; a kept call has the arguments that are kept, and
  -- its left side where its result is; a block's end stays where one of its variables does
  abbrev pub project_code : Code → Code
  project_code End = End
  project_code (Opens x r) = either (k.variable x) (Opens (new.variable x) (project_code r)) (project_code r)
  project_code (Plain i a r) =
      either (k.statement i) (Plain (new.statement i) (renamed_act new.variable a) (project_code r)) (project_code r)
  project_code (Fork i e c r) =
      either (k.statement i) (Fork (new.statement i) (renamed new.variable e) (λ v. project_code (c v)) (project_code r)) (project_code r)
  project_code (Loop i e b r) =
      either (k.statement i) (Loop (new.statement i) (renamed new.variable e) (project_code b) (project_code r)) (project_code r)
  project_code (Leaves xs r) = leave (renamed_all xs) (project_code r)
  project_code (Call i to f args r) =
      either (k.statement i) (Call (new.statement i) (kept_target (k.result i) (renamed_target new.variable to)) (new.function f) (map (renamed new.variable) (chosen (k.argument i) 0 args)) (project_code r)) (project_code r)

  -- nothing is left behind a test that isn't kept
  abbrev pub IsNested : Code → Type 0
  IsNested End = Unit {0}
  IsNested (Opens x r) = IsNested r
  IsNested (Plain i a r) = IsNested r
  IsNested (Fork i e c r) = (k.statement i ≡ false → (v : ℤ) → project_code (c v) ≡ End) × (((v : ℤ) → IsNested (c v)) × IsNested r)
  IsNested (Loop i e b r) = (k.statement i ≡ false → project_code b ≡ End) × (IsNested b × IsNested r)
  IsNested (Leaves xs r) = IsNested r
  IsNested (Call i to f args r) = IsNested r
