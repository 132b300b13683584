-- A variable begins in a program and in its slice.
use Rattle.std.specs.Prelude.{◌≡◌, ℕ, [], ◌∷◌, ◌++◌, length, Bool, true, Option}
use Rattle.c_meaning.specs.declared.value.Value.{Value}
use Rattle.c_meaning.specs.Values.{Types, State, variable_opened}
use Rattle.dep_model.specs.declared.location.Location.{Location}
use Rattle.simulation.specs.Renaming.{World, Grows, Names, BlocksStand, FramesStand, AlikeAt}
use Rattle.simulation_places.specs.Counterparts.{AreApart}
use Rattle.simulation_steps.proofs.Closing.{viewed}

-- there are as many origins as blocks
abbrev pub IsTracked : State → Type 0
IsTracked s = length s.origins ≡ length s.memory.blocks

-- what holds of both before
pub record BothAt (names : Names) (w : World) (types there : Types) (x : ℕ) (m n : State) : Type 0 where
  pub tracked : IsTracked m
  pub tracked_there : IsTracked n
  pub blocks : BlocksStand names w m n
  pub frames : FramesStand names w m.frame n.frame
  pub stays : names.stays x ≡ true
  pub apart : AreApart names
  pub type_is : there.typing.variable (names.variable x) ≡ types.typing.variable x

-- where blocks have begun in both, or are gone, a world that has grown by the new ones keeps all that is alike, for the activation that
-- runs, and for any other, which can name and has returned what it could and has
pub record BothBegun (names : Names) (outside : Location → Bool) (w u : World) (m n m1 n1 : State) : Type 0 where
  pub grows : Grows w u
  pub blocks : BlocksStand names u m1 n1
  pub frames : FramesStand names u m1.frame n1.frame
  pub same : (l : Location) → AlikeAt outside w l m n → AlikeAt outside u l m1 n1
  pub others :
      (frame frame_there : ℕ → Option ℕ) (r r1 : Option Value) (l : Location)
      → AlikeAt outside w l (viewed frame r m) (viewed frame_there r1 n) → AlikeAt outside u l (viewed frame r m1) (viewed frame_there r1 n1)

abbrev pub VariablesBeginTogether : Type 0
VariablesBeginTogether =
    (names : Names) (outside : Location → Bool) (w : World) (types there : Types) (x : ℕ) (m n : State) → BothAt names w types there x m n
    → BothBegun names outside w (w ++ length m.memory.blocks ∷ []) m n (variable_opened types x m) (variable_opened there (names.variable x) n)
