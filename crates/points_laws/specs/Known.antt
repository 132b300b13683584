-- Programs of which both sides of each pointing are known: the variables that statements name are the program's own, what returns give
-- is given by functions that have a result, and what globals begin with points nowhere.
use Rattle.std.specs.Prelude.{◌≡◌, ◌<◌, ℕ, length, true, false, Some, Contains}
use Rattle.std.specs.List.{list_all}
use Rattle.c_tree.specs.declared.expr.Expr.{Expr}
use Rattle.c_tree.specs.declared.program.Item.{Item}
use Rattle.c_tree.specs.declared.program.Program.{Program}
use Rattle.c_language.specs.Code.{Returns}
use Rattle.dep_model.specs.declared.location.Location.{Location}
use Rattle.dep_model.specs.Denoted.{TargetsOf}
use Rattle.dep_model.specs.Doings.{Does, doings_of, program_doings}
use Rattle.dep_model.specs.MayPoint.{Pointing, parameters, item_pointings}
use Rattle.dep_model.specs.DoingNames.{doing_below}
use Rattle.dep_model.specs.VertexOrder.{has_result}

-- what globals begin with points nowhere
abbrev pub AreGlobalsNowhere : Program → Type 0
AreGlobalsNowhere p =
    (points : TargetsOf) (i : Item) (a : Pointing) (m : Location) → Contains p.items i → Contains (item_pointings p points i) a → a.from m ≡ false

pub record HasKnownSides (p : Program) : Type 0 where
  pub named : list_all (doing_below (length p.vars)) (program_doings p) ≡ true
  pub parameters_in : (f x : ℕ) → Contains (parameters p f) x → x < length p.vars
  pub returns_in : (f i : ℕ) (e : Expr) → Contains (doings_of p f) (Does i (Returns (Some e))) → has_result p f ≡ true
  pub globals : AreGlobalsNowhere p
