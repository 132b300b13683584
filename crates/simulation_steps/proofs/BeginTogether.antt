-- A variable that stays begins in a program and in its slice: its block there stands for its block here, and both are empty.
use Rattle.std.specs.Prelude.{◌≡◌, ℕ, [], ◌∷◌, ◌++◌, length, Bool}
use Rattle.std.proofs.Common.{sym, ap, subst}
use Rattle.c_language.specs.declared.expr_type.ExprType.{ExprType}
use Rattle.c_meaning.specs.Memory.{unwritten, Entered, enter}
use Rattle.c_meaning.specs.Values.{Types, OfVariable, State, variable_opened}
use Rattle.dep_model.specs.declared.location.Location.{Location}
use Rattle.simulation.specs.Renaming.{World, Names, of_variable}
use Rattle.simulation_steps.proofs.Begun.{BothAt, BothBegun, VariablesBeginTogether}
use Rattle.simulation_steps.proofs.NewBlocks.{block_begins, unwritten_twins, frames_bound, old_named}

module _ (names : Names) (outside : Location → Bool) (w : World) (types there : Types) (x : ℕ) (m n : State) (h : BothAt names w types there x m n) where
  abbrev grown : World
  grown = w ++ length m.memory.blocks ∷ []

  abbrev shape : ExprType
  shape = types.typing.variable x

  -- the slice's state, by the type of the original's variable
  abbrev opened_there : State
  opened_there = record (variable_opened there (names.variable x) n) { memory = enter shape n.memory }

  there_is : opened_there ≡ variable_opened there (names.variable x) n
  there_is = ap (λ (t : ExprType). record opened_there { memory = enter t n.memory }) (sym h.type_is)

  begun_together : BothBegun names outside w grown m n (variable_opened types x m) opened_there
  begun_together =
      block_begins names outside w m n h.blocks (unwritten m.memory.structs shape Entered) (unwritten n.memory.structs shape Entered) (OfVariable x) (OfVariable (names.variable x)) (unwritten_twins names grown m.memory.structs n.memory.structs shape Entered (OfVariable x) (OfVariable (names.variable x)) (of_variable h.stays)) h.tracked h.tracked_there (variable_opened types x m).frame opened_there.frame
      (frames_bound names w m n h.blocks.count_is x h.stays h.apart h.frames) (λ y c e low. old_named m x y c e low)

pub variables_begin_together : VariablesBeginTogether
variables_begin_together names outside w types there x m n h =
    subst (λ (s : State). BothBegun names outside w (w ++ length m.memory.blocks ∷ []) m n (variable_opened types x m) s) (there_is names outside w types there x m n h) (begun_together names outside w types there x m n h)
