-- An act that both programs do: what it begins, frees and stores in both keeps what is alike.
use Rattle.std.proofs.Common.{◌≡◌, ℕ, List, length, Option, Some, None, Bool, true, inl, inr, sym, subst}
use Rattle.c_meaning.specs.Memory.{Allocated, array_of}
use Rattle.c_meaning.specs.Values.{OfStatement, State}
use Rattle.c_meaning.specs.Acts.{Request, Made, with_begun, origins_after, after}
use Rattle.c_meaning.specs.Steps.{Waiting}
use Rattle.dep_model.specs.declared.location.Location.{Location}
use Rattle.simulation.specs.Agreeing.{Together}
use Rattle.simulation.specs.Places.{Position}
use Rattle.simulation.specs.Renaming.{World, Names, of_statement, BlocksStand, FramesStand, AlikeAt}
use Rattle.simulation.specs.Slicings.{Slicing, setting_of}
use Rattle.simulation_steps.proofs.Begun.{IsTracked, BothBegun}
use Rattle.simulation_steps.proofs.FreedTogether.{freeing, blocks_left, both_freed}
use Rattle.simulation_steps.proofs.NewBlocks.{unnamed_begins, both_stay, both_on}
use Rattle.simulation_steps.proofs.Outcomes.{AlikeMade, world_with, CellsStand}
use Rattle.simulation_steps.proofs.StoredTogether.{quiet_blocks, quiet_alike, quiet_callers}
use Rattle.simulation_steps.proofs.WholeBlocks.{StateWhole, left_whole, begun_whole, cells_stand}

-- the state where a block has begun that a statement asks for, or none
abbrev pub asking : ℕ → Option Request → State → State
asking i o s = record s { memory = with_begun o s.memory; origins = origins_after i o s.origins }

-- the state in which the stores of an act are done
abbrev pub before_stores : ℕ → Made → State → State
before_stores i v s = freeing v.freed (asking i v.begun s)

-- what holds of both before the act
pub record AreReady (names : Names) (w : World) (m n : State) : Type 0 where
  pub blocks : BlocksStand names w m n
  pub frames : FramesStand names w m.frame n.frame
  pub tracked : IsTracked m
  pub tracked_there : IsTracked n
  pub whole : StateWhole m
  pub whole_there : StateWhole n

module _ (names : Names) (outside : Location → Bool) where
  module _ (w : World) (m n : State) (ready : AreReady names w m n) (i : ℕ) where
    asked : (o : Option Request) → BothBegun names outside w (world_with w (length m.memory.blocks) o) m n (asking i o m) (asking (names.statement i) o n)
    asked None = both_stay names outside w m n ready.blocks ready.frames
    asked (Some r) =
        unnamed_begins names outside w m n ready.blocks ready.frames ready.tracked ready.tracked_there (array_of r.count r.shape) Allocated (OfStatement i) (OfStatement (names.statement i)) of_statement

    module _ (v u : Made) (made_ : AlikeMade (world_with w (length m.memory.blocks) v.begun) v u) where
      abbrev pub grown : World
      grown = world_with w (length m.memory.blocks) v.begun

      abbrev pub here : State
      here = before_stores i v m

      abbrev pub there : State
      there = before_stores (names.statement i) u n

      begun : BothBegun names outside w grown m n (asking i v.begun m) (asking (names.statement i) u.begun n)
      begun = subst (λ (o : Option Request). BothBegun names outside w grown m n (asking i v.begun m) (asking (names.statement i) o n)) (sym made_.begun) (asked v.begun)

      pub cells : CellsStand grown here there
      cells =
          cells_stand names grown here there (left_whole v.freed _ (begun_whole v.begun m.memory ready.whole)) (left_whole u.freed _ (begun_whole u.begun n.memory ready.whole_there)) (blocks_left names grown (asking i v.begun m) (asking (names.statement i) u.begun n) begun.blocks v.freed u.freed made_.freed)

      -- what is alike is so where the stores are done
      pub prepared : BothBegun names outside w grown m n here there
      prepared =
          both_on names outside w grown grown m n (asking i v.begun m) (asking (names.statement i) u.begun n) here there begun (both_freed names outside grown (asking i v.begun m) (asking (names.statement i) u.begun n) begun.blocks begun.frames v.freed u.freed made_.freed cells)

-- so both go on together, where what is killed is alike after
module _ (k : Slicing) (wanted : Location → Position → Type 0) (holds : ℕ → Type 0) (w : World) (f : ℕ) (callers : List Waiting) (kills : Location → Bool) (m n : State) (ready : AreReady k.names w m n) (i : ℕ) (v u : Made) (made_ : AlikeMade (world_with w (length m.memory.blocks) v.begun) v u) where
  pub done_together : ((l : Location) → kills l ≡ true → AlikeAt k.outside (world_with w (length m.memory.blocks) v.begun) l (after i v m) (after (k.names.statement i) u n)) → Together (setting_of k wanted holds) w f callers kills m n (after i v m) (after (k.names.statement i) u n)
  done_together over =
      let both = prepared k.names k.outside w m n ready i v u made_ in
      let grown_ = world_with w (length m.memory.blocks) v.begun in
      let s = before_stores i v m in
      let t = before_stores (k.names.statement i) u n in
      let cells_ = cells k.names k.outside w m n ready i v u made_ in
      record {
        world = grown_;
        grows = both.grows;
        blocks = quiet_blocks k.names k.outside grown_ s t both.blocks cells_ v u made_;
        frames = both.frames;
        same = λ l h. elim h [ inl kl ↦ over l kl | inr a ↦ quiet_alike k.names k.outside grown_ s t both.blocks cells_ v u made_ l (both.same l a) ];
        waiting = λ above a b below l e stands unmodified same. quiet_callers k.names k.outside grown_ s t both.blocks cells_ v u made_ a b l (both.others a.frame b.frame a.returned b.returned l same);
      }
