-- The states of the meaning, as the code has them.
use Rattle.std.specs.Prelude.{◌≡◌, ℕ, List, [], ◌∷◌, Option, Some, None}
use Rattle.c_tree.specs.declared.program.Program.{Program}
use Rattle.c_meaning.specs.declared.value.Value.{Value}
use Rattle.c_meaning.specs.Activations.{executable, outside, parameter_begun}
use Rattle.c_language.specs.TreeTypes.{type_of_variable}
use Rattle.c_meaning.specs.Values.{State, variable_opened, as_type, beside}
use Rattle.c_memory.specs.Scenes.{frame_of}
use Rattle.c_machine.specs.declared.states.State.{State as Standing}

-- a state is this one; what made its blocks is nowhere kept
pub record IsState (r : Standing) (s : State) : Type 0 where
  pub frame : frame_of r.frame.items ≡ s.frame
  pub returned : r.returned ≡ s.returned
  pub memory : r.memory ≡ s.memory
  pub unread : r.unread.now ≡ s.unread

-- a variable of a program begins
abbrev pub opened_in : Program → ℕ → State → State
opened_in p x s = variable_opened (outside (executable p)) x s

-- parameters begin with their values
abbrev pub all_passed : Program → List ℕ → List Value → State → State
all_passed p [] vs s = s
all_passed p (x ∷ xs) [] s = s
all_passed p (x ∷ xs) (v ∷ vs) s = all_passed p xs vs (parameter_begun (executable p) x s v)

-- all but the memory is as before
pub record Keeps (old new : Standing) : Type 0 where
  pub frame : new.frame ≡ old.frame
  pub returned : new.returned ≡ old.returned
  pub unread : new.unread ≡ old.unread

-- values as parameters have them; None where there are more or less, or one can't be had
abbrev pub as_parameters : Program → List ℕ → List Value → Option (List Value)
as_parameters p [] [] = Some []
as_parameters p [] (v ∷ vs) = None
as_parameters p (x ∷ xs) [] = None
as_parameters p (x ∷ xs) (v ∷ vs) = beside (as_type (type_of_variable p x) v) (as_parameters p xs vs)
