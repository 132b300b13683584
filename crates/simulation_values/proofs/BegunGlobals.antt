-- A global begins in a program and in its slice with the same block, or in the program alone: what is alike stays so.
use Rattle.std.proofs.Common.{◌≡◌, ℕ, List, [], ◌∷◌, ◌++◌, length, Some, Bool, true, false, refl, sym, ap, ◌∙◌, subst, arith}
use Rattle.std.specs.Prelude.{option_and_then, is_some}
use Rattle.std.proofs.lemmas.List.{length-append}
use Rattle.c_language.proofs.Tests.{false_true}
use Rattle.c_meaning.specs.declared.value.Hop.{Hop}
use Rattle.c_meaning.specs.Cells.{Structs}
use Rattle.c_meaning.specs.Memory.{Block, held, cell_in}
use Rattle.c_meaning.specs.Values.{OfVariable, State, bound}
use Rattle.dep_model.specs.declared.location.Location.{Location}
use Rattle.run_facts.proofs.Blocks.{get_more}
use Rattle.run_facts.proofs.KeptMemories.{new_keeps}
use Rattle.simulation.specs.Renaming.{World, AlikeCell, Names, of_variable, BlocksStand, FramesStand, AlikeAt}
use Rattle.simulation_places.specs.Counterparts.{AreApart}
use Rattle.simulation_steps.proofs.AlikeOn.{Leaves, alike_on}
use Rattle.simulation_steps.proofs.Begun.{IsTracked, BothBegun}
use Rattle.simulation_steps.proofs.NewBlocks.{AreTwins, with_one, block_begins, frames_bound, old_named}
use Rattle.simulation_steps.proofs.Outlines.{KeepsOutlines}
use Rattle.simulation_steps.proofs.KeptOutlines.{blocks_on}
use Rattle.simulation_values.proofs.GoneFrames.{frames_alone}

-- a variable begins in a block of its own
abbrev pub with_block_of : ℕ → Block → State → State
with_block_of x b s = with_one (bound s.frame x (Some (length s.memory.blocks))) b (OfVariable x) s

-- what a block holds is the same in both, and leads nowhere
abbrev pub IsPlain : Structs → Block → Type 0
IsPlain structs b = (w : World) (path : List Hop) → AlikeCell w (option_and_then held (cell_in structs path b)) (option_and_then held (cell_in structs path b))

tracked_one : (x : ℕ) (b : Block) (s : State) → IsTracked s → IsTracked (with_block_of x b s)
tracked_one x b s h = let one = length-append s.origins (OfVariable x ∷ []) in let two = length-append s.memory.blocks (b ∷ []) in omega (arith, one, two, h)

module _ (names : Names) (outside : Location → Bool) where
  -- blocks of both stand for one another, and what is at each location is alike
  pub record Begun (w : World) (m n : State) : Type 0 where
    pub blocks : BlocksStand names w m n
    pub frames : FramesStand names w m.frame n.frame
    pub same : (l : Location) → AlikeAt outside w l m n
    pub tracked : IsTracked m
    pub tracked_there : IsTracked n

  module _ (apart : AreApart names) (w : World) (m n : State) (h : Begun w m n) (x : ℕ) (block : Block) where
    abbrev here : State
    here = with_block_of x block m

    -- in the original alone
    keeps : KeepsOutlines m here
    keeps = record {
      structs_are = refl;
      each = λ i b e. (b, get_more m.memory.blocks (block ∷ []) i b e, record { shape_is = refl; kind_is = refl; stays_gone = λ g. g });
      new = OfVariable x ∷ [];
      origins_are = refl;
    }

    leaves : (l : Location) → Leaves names outside w l m here
    leaves l = record {
      live = λ q low live. sym (ap is_some (new_keeps block m.memory q low)) ∙ live;
      frames = λ y b root low e. old_named m x y b e low;
      cells = λ q low live at counts. ap (option_and_then held) (new_keeps block m.memory q low);
      input = λ e. refl;
      result = λ f e. refl;
    }

    pub begun_alone : names.stays x ≡ false → Begun w here n
    begun_alone goes = record {
      blocks = blocks_on names w m here n keeps h.blocks;
      frames = frames_alone names w x (Some (length m.memory.blocks)) m.frame n.frame goes h.frames;
      same = λ l. alike_on names outside w l m here n h.blocks keeps (leaves l) (h.same l);
      tracked = tracked_one x block m h.tracked;
      tracked_there = h.tracked_there;
    }

    -- in both
    module _ (stays : names.stays x ≡ true) (live : block.is_live ≡ true) (plain : IsPlain m.memory.structs block) where
      abbrev grown : World
      grown = w ++ length m.memory.blocks ∷ []

      abbrev there : State
      there = with_block_of (names.variable x) block n

      twins : AreTwins names grown m.memory.structs n.memory.structs block block (OfVariable x) (OfVariable (names.variable x))
      twins = record {
        shape_is = refl;
        kind_is = refl;
        gone = λ e. false_true (sym e ∙ live);
        origins_are = of_variable stays;
        cells = λ path. subst (λ ss. AlikeCell grown (option_and_then held (cell_in m.memory.structs path block)) (option_and_then held (cell_in ss path block))) h.blocks.structs_are (plain grown path);
      }

      both_begin : BothBegun names outside w grown m n here there
      both_begin =
          block_begins names outside w m n h.blocks block block (OfVariable x) (OfVariable (names.variable x)) twins h.tracked h.tracked_there here.frame there.frame (frames_bound names w m n h.blocks.count_is x stays apart h.frames) (λ y c e low. old_named m x y c e low)

      pub begun_both : Begun grown here there
      begun_both = record {
        blocks = both_begin.blocks;
        frames = both_begin.frames;
        same = λ l. both_begin.same l (h.same l);
        tracked = tracked_one x block m h.tracked;
        tracked_there = tracked_one (names.variable x) block n h.tracked_there;
      }
