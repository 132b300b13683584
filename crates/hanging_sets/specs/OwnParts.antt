-- What belongs to one function of a program: its parameters, which no other function names, and its return.
use Rattle.std.specs.Prelude.{◌≡◌, ℕ, true, false, Option, Some, Contains, slice_get}
use Rattle.c_tree.specs.declared.expr.Expr.{Expr}
use Rattle.c_tree.specs.declared.program.Function.{Function}
use Rattle.c_tree.specs.declared.program.Program.{Program}
use Rattle.c_language.specs.Code.{Returns}
use Rattle.c_language.specs.Mains.{is_main_of}
use Rattle.dep_model.specs.Doings.{Doing, Does, doings_of}
use Rattle.dep_model.specs.MayPoint.{parameters}
use Rattle.dep_model.specs.VertexOrder.{has_result}
use Rattle.hanging_sets.specs.Hanging.{EndsWith}
use Rattle.hanging_sets.specs.NamedBy.{doing_names}

-- Each statement names only parameters of its own function; no variable is a parameter twice; a function that gives a result, other than
-- main, ends with a return of a value; and a return stands nowhere else than at the end of its function.
pub record HasOwnParts (p : Program) : Type 0 where
  pub parameters_own : (f g n x : ℕ) (d : Doing) → Contains (doings_of p f) d → doing_names d x ≡ true → slice_get (parameters p g) n ≡ Some x → g ≡ f
  pub parameters_once : (f g n m x : ℕ) → slice_get (parameters p f) n ≡ Some x → slice_get (parameters p g) m ≡ Some x → (f ≡ g) × (n ≡ m)
  pub returns_there : (f : ℕ) (c : Function)
      → slice_get p.functions f ≡ Some c → has_result p f ≡ true → is_main_of p f ≡ false → (i : ℕ) × (e : Expr) × EndsWith i (Some e) c.body
  pub returns_last : (f i : ℕ) (e : Option Expr) (c : Function)
      → slice_get p.functions f ≡ Some c → Contains (doings_of p f) (Does i (Returns e)) → EndsWith i e c.body
