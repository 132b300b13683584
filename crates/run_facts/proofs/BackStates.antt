-- The state to which a caller comes back is typed where the callee's was, and its blocks were made by the same.
use Rattle.std.proofs.Common.{◌≡◌, ℕ, List, [], ◌∷◌, refl}
use Rattle.c_tree.specs.declared.program.Program.{Program}
use Rattle.c_meaning.specs.Values.{State, variable_closed, all_closed}
use Rattle.c_meaning.specs.Activations.{Executable, variables_at}
use Rattle.c_meaning.specs.Steps.{Waiting}
use Rattle.dep_model.specs.Denoted.{TargetsOf}
use Rattle.run_facts.specs.Effects.{back_in}
use Rattle.run_facts.specs.TypedStates.{IsTypedState}
use Rattle.run_facts.proofs.Blocks.{AreNamed, IsPlaced}
use Rattle.run_facts.proofs.Points.{placed_resumed}
use Rattle.run_facts.proofs.TypedStores.{closed_typed, recast_typed}

-- who made a block stays where variables go
pub closed_origins : (xs : List ℕ) (s : State) → (all_closed xs s).origins ≡ s.origins
closed_origins [] s = refl
closed_origins (x ∷ xs) s = closed_origins xs (variable_closed x s)

pub back_typed : (p : Program) (points : TargetsOf) (e : Executable) (g : ℕ) (w : Waiting) (s : State) → IsTypedState p points s → IsPlaced s → AreNamed w.frame s.origins → IsTypedState p points (back_in e g w s)
back_typed p points e g w s typed placed named =
    let closed = all_closed (variables_at e g) s in
    recast_typed closed w.frame w.returned closed.unread p points (closed_typed p points (variables_at e g) s typed) (placed_resumed e g w s placed named).named
