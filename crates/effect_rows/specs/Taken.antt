-- Sets of variables that grow by those whose addresses are taken.
use Rattle.std.specs.Prelude.{◌≡◌, ℕ, List, [], ◌∷◌, Bool, false, ◌||◌, Option, Some, None}
use Rattle.std.specs.List.{list_any}
use Rattle.bit_rows.specs.Sets.{has}
use Rattle.c_tree.specs.declared.program.Function.{Function}
use Rattle.c_tree.specs.declared.program.Program.{Program}
use Rattle.c_tree.specs.declared.statement.Arm.{Arm}
use Rattle.c_tree.specs.declared.statement.Statement.{Statement}
use Rattle.dep_model.specs.DoingEffects.{doing_takes, function_takes, is_taken}
use Rattle.dep_model.specs.Doings.{Doing, doings, body_doings}

-- the second set has the members of the first, and what passes the test
abbrev pub Adds : List Bool → List Bool → (ℕ → Bool) → Type 0
Adds old new test = (x : ℕ) → has new x ≡ (has old x || test x)

-- the set has the variables of the program whose addresses are taken
abbrev pub AreTaken : Program → List Bool → Type 0
AreTaken p taken = (x : ℕ) → has taken x ≡ is_taken p x

module _ (p : Program) where
  abbrev pub doings_take : List Doing → ℕ → Bool
  doings_take ds x = list_any (λ (d : Doing). doing_takes p d x) ds

  -- what the statements of a statement take, those of a list, of arms and of a part of a for
  abbrev pub statement_takes : Statement → ℕ → Bool
  statement_takes s = doings_take (doings s)

  abbrev pub body_takes : List Statement → ℕ → Bool
  body_takes b = doings_take (body_doings b)

  abbrev pub arms_take : List Arm → ℕ → Bool
  arms_take [] x = false
  arms_take (a ∷ as_) x = body_takes a.body x || arms_take as_ x

  abbrev pub part_takes : Option Statement → ℕ → Bool
  part_takes None x = false
  part_takes (Some s) x = statement_takes s x

  abbrev pub functions_take : List Function → ℕ → Bool
  functions_take fs x = list_any (λ (f : Function). function_takes p f x) fs
