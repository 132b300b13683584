-- What a statement calls a function with.
use Rattle.std.specs.Prelude.{◌≡◌, ℕ, Option, Some}
use Rattle.dep_model.specs.Doings.{Doing, Calls}
use Rattle.vertex_layout.specs.declared.calls.Call.{Call}

-- it does nothing but this call
pub record IsCall (d : Option Doing) (c : Call) : Type 0 where
  pub id : ℕ
  pub function : ℕ
  pub is : d ≡ Some (Calls id c.target.now function c.args.now)
