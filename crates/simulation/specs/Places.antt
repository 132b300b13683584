-- Where an activation stands, and the target of a call that a slice has.
use Rattle.std.specs.Prelude.{ℕ, Bool, true, false}
use Rattle.c_tree.specs.declared.statement.Target.{Target}
use Rattle.c_tree.specs.declared.statement.Target.TheVariants as target
use Rattle.c_language.specs.Code.{Code}

-- the target of a call that keeps it or drops it
abbrev pub kept_target : Bool → Target → Target
kept_target true to = to
kept_target false to = target.None

-- where an activation of a function stands. One that waits for the call of a statement stands directly behind the actual-ins of the
-- call, with what it does after it; when the callee is done, it comes to stand behind the actual-outs of locations, before that of the
-- result
pub data Position : Type 0 where
  At : (function : ℕ) → Code → Position
  Behind : (function id callee : ℕ) → (to : Target) → (rest : Code) → Position
  Storing : (function id callee : ℕ) → (to : Target) → (rest : Code) → Position
