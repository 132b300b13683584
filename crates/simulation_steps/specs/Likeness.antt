-- What acts in a slice need of it besides the places.
use Rattle.std.specs.Prelude.{◌≡◌, ℕ, true, Some, Contains}
use Rattle.c_tree.specs.declared.expr.Expr.{Expr}
use Rattle.c_tree.specs.declared.expr.MemberId.{MemberId}
use Rattle.c_tree.specs.declared.program.Program.{Program}
use Rattle.c_language.specs.Code.{Act, Returns}
use Rattle.c_language.specs.Names.{act_names}
use Rattle.c_meaning.specs.Activations.{executable, result_at}
use Rattle.dep_model.specs.Doings.{Does, doings_of}
use Rattle.projection.specs.Kept.{Kept}
use Rattle.simulation_places.specs.ProjectedCode.{Numbering}

-- q keeps the types of variables that stay, of members, and of the results of functions with a kept return; what kept acts of p name stays
pub record HasLikeActs (p q : Program) (k : Kept ℕ) (new : Numbering) : Type 0 where
  pub names_kept :
      (f i x : ℕ) (a : Act) → Contains (doings_of p f) (Does i a) → k.statement i ≡ true → act_names a x ≡ true → k.variable x ≡ true
  pub types_are : (x : ℕ) → k.variable x ≡ true → (executable q).typing.variable (new.variable x) ≡ (executable p).typing.variable x
  pub members_are : (m : MemberId) → (executable q).typing.member m ≡ (executable p).typing.member m
  pub results_are :
      (f i : ℕ) (e : Expr) → Contains (doings_of p f) (Does i (Returns (Some e))) → k.statement i ≡ true
      → result_at (executable q) (new.function f) ≡ result_at (executable p) f
