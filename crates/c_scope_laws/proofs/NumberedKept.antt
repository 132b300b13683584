-- What stays of statements and variables is the same, whether functions are told by their names or by their numbers.
use Rattle.std.proofs.Common.{◌≡◌, ℕ, suc, List, [], ◌∷◌, ◌++◌, Some, None, refl, ap, ap₂}
use mathlib.Core.Path.{fun_ext}
use Rattle.c_tree.specs.declared.program.Var.{Var}
use Rattle.c_tree.specs.declared.raw.program.RawProgram.{RawProgram}
use Rattle.c_tree.specs.declared.statement.Arm.{Arm}
use Rattle.c_tree.specs.declared.statement.Statement.{Statement, fold-Statement}
use Rattle.c_tree.specs.declared.statement.Statement.TheOpen.{Statement-F}
use Rattle.c_language.specs.Words.{Bytes}
use Rattle.projection.specs.Kept.{Kept}
use Rattle.projection.specs.Projection.{if_so, projected_var, projected_vars, projected_step, projected_arm_step, projected, projected_all}
use Rattle.c_scope_laws.specs.Following.{kept_numbers}

module _ (k : Kept Bytes) (raw : RawProgram) (g : ℕ → ℕ) where
  abbrev numbers : Kept ℕ
  numbers = kept_numbers k raw

  step_numbers : (y : Statement-F (List Statement) Arm) → projected_step k g y ≡ projected_step numbers g y
  step_numbers (Statement-F.Declare None l x i) = refl
  step_numbers (Statement-F.Declare (Some id) l x i) = refl
  step_numbers (Statement-F.Assign id l a op b) = refl
  step_numbers (Statement-F.Bump id l a up before) = refl
  step_numbers (Statement-F.Invoke id l to f args) = refl
  step_numbers (Statement-F.Fetch id l to) = refl
  step_numbers (Statement-F.Write id l a) = refl
  step_numbers (Statement-F.Print id l format args) = refl
  step_numbers (Statement-F.Heap id l to cast n) = refl
  step_numbers (Statement-F.Release id l a) = refl
  step_numbers (Statement-F.If id l a b c) = refl
  step_numbers (Statement-F.While id l a b) = refl
  step_numbers (Statement-F.Do id l a b) = refl
  step_numbers (Statement-F.For id l i a step b) = refl
  step_numbers (Statement-F.Switch id l a arms) = refl
  step_numbers (Statement-F.Block l b) = refl
  step_numbers (Statement-F.Return id l a) = refl

  abbrev with_step : (Statement-F (List Statement) Arm → List Statement) → Statement → List Statement
  with_step step = fold-Statement (List Statement) Arm step (projected_arm_step k g)

  one_numbers : (x : Statement) → projected k g x ≡ projected numbers g x
  one_numbers x = ap (λ (step : Statement-F (List Statement) Arm → List Statement). with_step step x) (fun_ext step_numbers)

  pub all_numbers : (xs : List Statement) → projected_all k g xs ≡ projected_all numbers g xs
  all_numbers [] = refl
  all_numbers (x ∷ xs) = ap₂ (λ (a b : List Statement). a ++ b) (one_numbers x) (all_numbers xs)

  pub vars_numbers : (n : ℕ) (vs : List Var) → projected_vars k g n vs ≡ projected_vars numbers g n vs
  vars_numbers n [] = refl
  vars_numbers n (v ∷ vs) = ap (λ (all : List Var). if_so (k.variable n) (projected_var k g v ∷ all) all) (vars_numbers (suc n) vs)
