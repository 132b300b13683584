-- Where both programs free a block, or none, blocks go on standing for blocks, and what is alike in those that are left stays so.
use Rattle.std.proofs.Common.{◌≡◌, ℕ, List, Bool, Option, Some, true, inl, inr, refl, sym, ap, ◌∙◌, subst}
use Rattle.std.specs.Prelude.{option_map, option_and_then, is_some, slice_get}
use Rattle.std.proofs.lemmas.Bool.Decides.{eqb_tells}
use Rattle.c_language.proofs.Options.{some_same, map_there}
use Rattle.c_meaning.specs.declared.value.Hop.{Hop}
use Rattle.c_meaning.specs.Memory.{Block, held, is_cell, read, changed, gone}
use Rattle.c_meaning.specs.Values.{State, leave_block}
use Rattle.c_meaning.proofs.Frames.{get_changed, get_other}
use Rattle.c_meaning.proofs.Origins.{length-changed}
use Rattle.dep_model.specs.declared.location.Location.{Location}
use Rattle.run_facts.proofs.KeptMemories.{leave_keeps}
use Rattle.simulation.specs.Renaming.{World, Stands, AlikeCell, cell_at, Names, StandsForOne, BlocksStand, FramesStand}
use Rattle.simulation.proofs.GrownWorlds.{world_same}
use Rattle.simulation_steps.proofs.Begun.{BothBegun}
use Rattle.simulation_steps.proofs.Outcomes.{AlikeBlock, no_block, one_block, CellsStand}

-- the state where a block is gone, or none
abbrev pub freeing : Option ℕ → State → State
freeing o s = record s { memory = leave_block o s.memory }

module _ (names : Names) (w : World) (m n : State) (stand : BlocksStand names w m n) where
  module _ (b c : ℕ) (e : Stands w b c) where
    abbrev m1 : State
    m1 = freeing (Some b) m

    abbrev n1 : State
    n1 = freeing (Some c) n

    -- the block that is freed
    freed_one : (there : Block) → StandsForOne names w m n c there → StandsForOne names w m1 n1 c (gone there)
    freed_one there h =
        let same : h.number ≡ b = some_same (sym h.stands ∙ e) in
        record {
          number = h.number;
          stands = h.stands;
          block = gone h.block;
          block_is = ap (λ k. slice_get (changed gone k m.memory.blocks) h.number) (sym same) ∙ (get_changed gone h.number m.memory.blocks ∙ ap (option_map gone) h.block_is);
          shape_is = h.shape_is;
          kind_is = h.kind_is;
          origin = h.origin;
          origin_there = h.origin_there;
          origin_is = h.origin_is;
          origin_there_is = h.origin_there_is;
          origins_are = h.origins_are;
          gone = λ q. refl;
        }

    -- another
    other_one : (d : ℕ) (there : Block) → (c ≡ d → ⊥) → StandsForOne names w m n d there → StandsForOne names w m1 n1 d there
    other_one d there other h = record {
      number = h.number;
      stands = h.stands;
      block = h.block;
      block_is = get_other gone b h.number m.memory.blocks (λ q. other (stand.one_to_one b c d e (subst (λ k. Stands w k d) (sym q) h.stands))) ∙ h.block_is;
      shape_is = h.shape_is;
      kind_is = h.kind_is;
      origin = h.origin;
      origin_there = h.origin_there;
      origin_is = h.origin_is;
      origin_there_is = h.origin_there_is;
      origins_are = h.origins_are;
      gone = h.gone;
    }

    each_freed : (d : ℕ) (there : Block) → slice_get (changed gone c n.memory.blocks) d ≡ Some there → StandsForOne names w m1 n1 d there
    each_freed d there is = elim (eqb_tells c d) [
      | inl same ↦ (
          let at : option_map gone (slice_get n.memory.blocks c) ≡ Some there = sym (get_changed gone c n.memory.blocks) ∙ (ap (slice_get (changed gone c n.memory.blocks)) same.1 ∙ is) in
          let k = map_there gone (slice_get n.memory.blocks c) there at in
          subst (λ z. StandsForOne names w m1 n1 z there) same.1 (subst (λ z. StandsForOne names w m1 n1 c z) k.same (freed_one k.value (stand.each c k.value k.there)))
          )
      | inr other ↦ other_one d there other.1 (stand.each d there (sym (get_other gone c d n.memory.blocks other.1) ∙ is))
    ]

    blocks_freed : BlocksStand names w m1 n1
    blocks_freed = record {
      structs_are = stand.structs_are;
      count_is = stand.count_is ∙ sym (length-changed gone c n.memory.blocks);
      each = each_freed;
      one_to_one = stand.one_to_one;
    }

  pub blocks_left : (o p : Option ℕ) → AlikeBlock w o p → BlocksStand names w (freeing o m) (freeing p n)
  blocks_left o p no_block = stand
  blocks_left o p (one_block {b = b} {c = c} e) = blocks_freed b c e

module _ (names : Names) (outside : Location → Bool) (w : World) (m n : State) (stand : BlocksStand names w m n) (frames : FramesStand names w m.frame n.frame) (o p : Option ℕ) (freed : AlikeBlock w o p) (cells : CellsStand w (freeing o m) (freeing p n)) where
  cells_left : (b c : ℕ) (path : List Hop) → Stands w b c → is_cell (leave_block o m.memory) (cell_at b path) ≡ true → (is_cell m.memory (cell_at b path) ≡ true → AlikeCell w (read m.memory (cell_at b path)) (read n.memory (cell_at c path))) → AlikeCell w (read (leave_block o m.memory) (cell_at b path)) (read (leave_block p n.memory) (cell_at c path))
  cells_left b c path e live h =
      let same = leave_keeps o m.memory (cell_at b path) live in
      let there = leave_keeps p n.memory (cell_at c path) (cells (cell_at b path) c e live) in
      subst (λ z. AlikeCell w z (read (leave_block p n.memory) (cell_at c path))) (sym (ap (option_and_then held) same)) (subst (λ z. AlikeCell w (read m.memory (cell_at b path)) z) (sym (ap (option_and_then held) there)) (h (sym (ap is_some same) ∙ live)))

  -- for the activation that frees, and for any other
  pub both_freed : BothBegun names outside w w m n (freeing o m) (freeing p n)
  both_freed = record {
    grows = world_same w;
    blocks = blocks_left names w m n stand o p freed;
    frames = frames;
    same = λ l h. record {
      cells = λ b c path e counts live at. cells_left b c path e live (λ before. h.cells b c path e counts before at);
      input = h.input;
      result = h.result;
    };
    others = λ f g r u l h. record {
      cells = λ d c path e counts live at. cells_left d c path e live (λ before. h.cells d c path e counts before at);
      input = h.input;
      result = h.result;
    };
  }
