-- The calls of a program: where they stand, and which function they call.
use Rattle.std.specs.Prelude.{◌↔◌, ℕ, List, [], ◌∷◌, ◌++◌, suc, Contains}
use Rattle.c_tree.specs.declared.expr.Expr.{Expr}
use Rattle.c_tree.specs.declared.program.Function.{Function}
use Rattle.c_tree.specs.declared.program.Program.{Program}
use Rattle.c_tree.specs.declared.statement.Target.{Target}
use Rattle.dep_model.specs.Doings.{Doing, Does, Calls, doings_of, body_doings}
use Rattle.sdg.specs.declared.call_sites.CallSite.{CallSite}

abbrev pub site : ℕ → ℕ → ℕ → CallSite
site f i g = record { function = f; statement = i; callee = g }

-- statement i of function f calls function g
pub record IsSite (p : Program) (x : CallSite) : Type 0 where
  pub target : Target
  pub args : List Expr
  pub member : Contains (doings_of p x.function) (Calls x.statement target x.callee args)

-- exactly the calls of a program
abbrev pub AreSites : Program → List CallSite → Type 0
AreSites p xs = (x : CallSite) → Contains xs x ↔ IsSite p x

-- ---- in the order of the text

-- the calls among the statements of function f
abbrev pub sites_in : ℕ → List Doing → List CallSite
sites_in f [] = []
sites_in f (Does i a ∷ ds) = sites_in f ds
sites_in f (Calls i to g args ∷ ds) = site f i g ∷ sites_in f ds

-- the calls of functions, of which the first has the number f
abbrev pub sites_from : ℕ → List Function → List CallSite
sites_from f [] = []
sites_from f (g ∷ gs) = sites_in f (body_doings g.body) ++ sites_from (suc f) gs
