-- A block begins in a program and in its slice: the one stands for the other, of whatever type, kind and origin it is and whatever it
-- holds, where its cells are alike.
use Rattle.std.proofs.Common.{◌≡◌, ℕ, zero, suc, ◌<◌, ◌==◌, List, [], ◌∷◌, ◌++◌, length, map, Bool, true, false, if◌then◌else◌, Option, Some, None, inl, inr, refl, sym, ap, ◌∙◌, subst, arith, eq-eqb, eqb-true}
use Rattle.std.specs.Prelude.{option_map, option_and_then, is_some, slice_get}
use Rattle.std.proofs.lemmas.List.{length-append}
use Rattle.c_language.proofs.Options.{some_same}
use Rattle.c_language.proofs.Tests.{false_true}
use Rattle.c_language.specs.declared.expr_type.ExprType.{ExprType}
use Rattle.c_meaning.specs.declared.value.Hop.{Hop}
use Rattle.c_meaning.specs.declared.value.Value.{Value}
use Rattle.c_meaning.specs.Cells.{Structs, cells, cell_number}
use Rattle.c_meaning.specs.Memory.{Kind, Block, Memory, held, cell_in, cell, is_cell, read, changed, with_cell, write, unwritten, with_new}
use Rattle.c_meaning.specs.Values.{Origin, State, whole, bound}
use Rattle.c_meaning.proofs.Frames.{get_last}
use Rattle.dep_model.specs.declared.location.Location.{Location}
use Rattle.run_facts.specs.CellLocations.{location_in, location_of}
use Rattle.run_facts.specs.Counting.{Counts}
use Rattle.run_facts.proofs.Blocks.{get_more}
use Rattle.run_facts.proofs.KeptMemories.{new_keeps}
use Rattle.simulation.specs.Renaming.{World, Stands, AlikeCell, empty, cell_at, Names, SameOrigin, StandsForOne, BlocksStand, BothStand, both, FramesStand, AlikeAt}
use Rattle.simulation.proofs.GrownWorlds.{world_same, world_on, world_more, grown_stands, grown_cell, grown_both}
use Rattle.simulation_places.specs.Counterparts.{AreApart}
use Rattle.simulation_steps.proofs.AlikeOn.{old_block}
use Rattle.simulation_steps.proofs.Begun.{IsTracked, BothBegun}
use Rattle.simulation_steps.proofs.GrownLists.{within, FrontOrLast, front, last, front_or_last}

-- a block of a program, and one of its slice that stands for it: of one type and kind, made by the same, and with alike cells
pub record AreTwins (names : Names) (u : World) (structs structs_there : Structs) (b d : Block) (o o1 : Origin) : Type 0 where
  pub shape_is : d.shape ≡ b.shape
  pub kind_is : d.kind ≡ b.kind
  pub gone : d.is_live ≡ false → b.is_live ≡ false
  pub origins_are : SameOrigin names o o1
  pub cells : (path : List Hop) → AlikeCell u (option_and_then held (cell_in structs path b)) (option_and_then held (cell_in structs_there path d))

-- the state with a block more, which may have a name
abbrev pub with_one : (ℕ → Option ℕ) → Block → Origin → State → State
with_one frame b o s = record s { frame = frame; memory = with_new b s.memory; origins = s.origins ++ o ∷ [] }

new_read : (m : Memory) (b : Block) (path : List Hop) → read (with_new b m) (cell_at (length m.blocks) path) ≡ option_and_then held (cell_in m.structs path b)
new_read m b path = ap (λ (o : Option Block). option_and_then held (option_and_then (cell_in m.structs path) o)) (get_last m.blocks b)

module _ (names : Names) (outside : Location → Bool) (w : World) (m n : State) (stand : BlocksStand names w m n) (b d : Block) (o o1 : Origin) where
  abbrev here : ℕ
  here = length m.memory.blocks

  abbrev there : ℕ
  there = length n.memory.blocks

  abbrev grown : World
  grown = w ++ here ∷ []

  module _ (twins : AreTwins names grown m.memory.structs n.memory.structs b d o o1) where
    -- with any names of blocks that were there, and whatever has been returned
    module _ (fr fr1 before before1 : ℕ → Option ℕ) (r r1 : Option Value) (named : (x c : ℕ) → fr x ≡ Some c → c < here → before x ≡ Some c) where
      abbrev m1 : State
      m1 = record (with_one fr b o m) { returned = r }

      abbrev n1 : State
      n1 = record (with_one fr1 d o1 n) { returned = r1 }

      alike_new : (l : Location) → AlikeAt outside w l (record m { frame = before; returned = r }) (record n { frame = before1; returned = r1 }) → AlikeAt outside grown l m1 n1
      alike_new l h = record {
        cells = λ i c path e counts live at. by_world i c path (front_or_last w here c i e) counts live at;
        input = h.input;
        result = λ f e. grown_cell w grown (world_more w here) r r1 (h.result f e);
      }
        where
          counts_before : (i : ℕ) → i < here → Counts outside l m1 i → Counts outside l (record m { frame = before; returned = r }) i
          counts_before i low (inl out) = inl out
          counts_before i low (inr k) = inr (k.0, k.1, named k.0 i k.2 low)

          by_world : (i c : ℕ) (path : List Hop) → FrontOrLast w here c i → Counts outside l m1 i → is_cell m1.memory (cell_at i path) ≡ true → location_of m1.origins (cell_at i path) ≡ Some l → AlikeCell grown (read m1.memory (cell_at i path)) (read n1.memory (cell_at c path))
          by_world i c path (front e) counts live at =
              let old = old_block names outside w m n i c stand e in
              let low1 : c < there = (let lt = within w c i e in let count = stand.count_is in omega (arith, lt, count)) in
              let same : cell m1.memory (cell_at i path) ≡ cell m.memory (cell_at i path) = new_keeps b m.memory (cell_at i path) old.low in
              let same1 : cell n1.memory (cell_at c path) ≡ cell n.memory (cell_at c path) = new_keeps d n.memory (cell_at c path) low1 in
              let at_before : location_of m.origins (cell_at i path) ≡ Some l = ap (option_map (λ (z : Origin). location_in z path)) (old.origin_is ∙ sym (get_more m.origins (o ∷ []) i old.origin old.origin_is)) ∙ at in
              let live_before : is_cell m.memory (cell_at i path) ≡ true = sym (ap is_some same) ∙ live in
              let before_ = grown_cell w grown (world_more w here) (read m.memory (cell_at i path)) (read n.memory (cell_at c path)) (h.cells i c path e (counts_before i old.low counts) live_before at_before) in
              subst (λ z. AlikeCell grown z (read n1.memory (cell_at c path))) (sym (ap (option_and_then held) same)) (subst (λ z. AlikeCell grown (read m.memory (cell_at i path)) z) (sym (ap (option_and_then held) same1)) before_)
          by_world i c path (last p q) counts live at =
              let count = stand.count_is in
              let at_there : there ≡ c = sym (p ∙ count) in
              let first = subst (λ z. read m1.memory (cell_at z path) ≡ option_and_then held (cell_in m.memory.structs path b)) q (new_read m.memory b path) in
              let second = subst (λ z. read n1.memory (cell_at z path) ≡ option_and_then held (cell_in n.memory.structs path d)) at_there (new_read n.memory d path) in
              subst (λ z. AlikeCell grown z (read n1.memory (cell_at c path))) (sym first) (subst (λ z. AlikeCell grown (option_and_then held (cell_in m.memory.structs path b)) z) (sym second) (twins.cells path))

    -- ---- blocks that stand for blocks

    pub new_stands : Stands grown here there
    new_stands = let count = stand.count_is in subst (λ k. slice_get grown k ≡ Some here) count (get_last w here)

    module _ (tracked : IsTracked m) (tracked_there : IsTracked n) (fr fr1 : ℕ → Option ℕ) where
      abbrev ma : State
      ma = with_one fr b o m

      abbrev na : State
      na = with_one fr1 d o1 n

      old_one : (c : ℕ) (k : Block) → StandsForOne names w m n c k → StandsForOne names grown ma na c k
      old_one c k h = record {
        number = h.number;
        stands = grown_stands w grown (world_more w here) h.number c h.stands;
        block = h.block;
        block_is = get_more m.memory.blocks (b ∷ []) h.number h.block h.block_is;
        shape_is = h.shape_is;
        kind_is = h.kind_is;
        origin = h.origin;
        origin_there = h.origin_there;
        origin_is = get_more m.origins (o ∷ []) h.number h.origin h.origin_is;
        origin_there_is = get_more n.origins (o1 ∷ []) c h.origin_there h.origin_there_is;
        origins_are = h.origins_are;
        gone = h.gone;
      }

      new_one : StandsForOne names grown ma na there d
      new_one = record {
        number = here;
        stands = new_stands;
        block = b;
        block_is = get_last m.memory.blocks b;
        shape_is = twins.shape_is;
        kind_is = twins.kind_is;
        origin = o;
        origin_there = o1;
        origin_is = subst (λ k. slice_get (m.origins ++ o ∷ []) k ≡ Some o) tracked (get_last m.origins o);
        origin_there_is = subst (λ k. slice_get (n.origins ++ o1 ∷ []) k ≡ Some o1) tracked_there (get_last n.origins o1);
        origins_are = twins.origins_are;
        gone = twins.gone;
      }

      by_place : (c : ℕ) (k : Block) → FrontOrLast n.memory.blocks d c k → StandsForOne names grown ma na c k
      by_place c k (front e) = old_one c k (stand.each c k e)
      by_place c k (last p q) = subst (λ i. StandsForOne names grown ma na i k) (sym p) (subst (λ z. StandsForOne names grown ma na there z) q new_one)

      old_low : (i c : ℕ) → Stands w i c → i < here
      old_low i c e = (old_block names outside w m n i c stand e).low

      alone_of : (i c k : ℕ) → FrontOrLast w here c i → FrontOrLast w here k i → c ≡ k
      alone_of i c k (front e) (front j) = stand.one_to_one i c k e j
      alone_of i c k (front e) (last p q) = let low = old_low i c e in absurd (omega (arith, low, q))
      alone_of i c k (last p q) (front j) = let low = old_low i k j in absurd (omega (arith, low, q))
      alone_of i c k (last p q) (last r s) = p ∙ sym r

      blocks_new : BlocksStand names grown ma na
      blocks_new = record {
        structs_are = stand.structs_are;
        count_is = (let one = length-append w (here ∷ []) in let two = length-append n.memory.blocks (d ∷ []) in let count = stand.count_is in omega (arith, one, two, count));
        each = λ c k e. by_place c k (front_or_last n.memory.blocks d c k e);
        one_to_one = λ i c k e j. alone_of i c k (front_or_last w here c i e) (front_or_last w here k i j);
      }

      -- where a block begins in both, whatever it holds, a world that has grown by the two keeps all that is alike
      pub block_begins : FramesStand names grown fr fr1 → ((x c : ℕ) → fr x ≡ Some c → c < here → m.frame x ≡ Some c) → BothBegun names outside w grown m n ma na
      block_begins frames named = record {
        grows = world_more w here;
        blocks = blocks_new;
        frames = frames;
        same = λ l a. alike_new fr fr1 m.frame n.frame m.returned n.returned named l a;
        others = λ f g r r1 l a. alike_new f g f g r r1 (λ y i e low. e) l a;
      }

-- ---- a block in which nothing is written

abbrev pub Nothing : ExprType → Option Value
Nothing t = None

pub none_held : (ts : List ExprType) (n : ℕ) → option_and_then held (slice_get (map Nothing ts) n) ≡ None
none_held [] n = refl
none_held (t ∷ ts) zero = refl
none_held (t ∷ ts) (suc n) = none_held ts n

empty_cell : (structs : Structs) (t : ExprType) (kind : Kind) (path : List Hop) → option_and_then held (cell_in structs path (unwritten structs t kind)) ≡ None
empty_cell structs t kind path = by_number (cell_number structs path t)
  where
    by_number : (o : Option ℕ) → option_and_then held (option_and_then (slice_get (map Nothing (cells structs t))) o) ≡ None
    by_number None = refl
    by_number (Some n) = none_held (cells structs t) n

pub unwritten_twins : (names : Names) (u : World) (structs structs_there : Structs) (t : ExprType) (kind : Kind) (o o1 : Origin) → SameOrigin names o o1 → AreTwins names u structs structs_there (unwritten structs t kind) (unwritten structs_there t kind) o o1
unwritten_twins names u structs structs_there t kind o o1 same = record {
  shape_is = refl;
  kind_is = refl;
  gone = λ e. false_true (sym e);
  origins_are = same;
  cells = λ path. subst (λ z. AlikeCell u z (option_and_then held (cell_in structs_there path (unwritten structs_there t kind)))) (sym (empty_cell structs t kind path)) (subst (λ z. AlikeCell u None z) (sym (empty_cell structs_there t kind path)) empty);
}

-- such a block without a name, as malloc's
pub unnamed_begins : (names : Names) (outside : Location → Bool) (w : World) (m n : State) → BlocksStand names w m n → FramesStand names w m.frame n.frame → IsTracked m → IsTracked n → (t : ExprType) (kind : Kind) (o o1 : Origin) → SameOrigin names o o1 → BothBegun names outside w (w ++ length m.memory.blocks ∷ []) m n (with_one m.frame (unwritten m.memory.structs t kind) o m) (with_one n.frame (unwritten n.memory.structs t kind) o1 n)
unnamed_begins names outside w m n stand frames tracked tracked_there t kind o o1 same =
    let grown_ = w ++ length m.memory.blocks ∷ [] in
    block_begins names outside w m n stand (unwritten m.memory.structs t kind) (unwritten n.memory.structs t kind) o o1 (unwritten_twins names grown_ m.memory.structs n.memory.structs t kind o o1 same) tracked tracked_there m.frame n.frame
    (λ y stays. grown_both w grown_ (world_more w (length m.memory.blocks)) names (m.frame y) (n.frame (names.variable y)) (frames y stays))
    (λ y c e low. e)

-- ---- a name for the new block

module _ (names : Names) (w : World) (m n : State) (count : length w ≡ length n.memory.blocks) (x : ℕ) (stays : names.stays x ≡ true) (apart : AreApart names) (frames : FramesStand names w m.frame n.frame) where
  pub frames_bound : FramesStand names (w ++ length m.memory.blocks ∷ []) (bound m.frame x (Some (length m.memory.blocks))) (bound n.frame (names.variable x) (Some (length n.memory.blocks)))
  frames_bound y kept = by_name (x == y) refl (names.variable x == names.variable y) refl
    where
      by_name : (b : Bool) → (x == y) ≡ b → (c : Bool) → (names.variable x == names.variable y) ≡ c → BothStand names (w ++ length m.memory.blocks ∷ []) (if b then Some (length m.memory.blocks) else m.frame y) (if c then Some (length n.memory.blocks) else n.frame (names.variable y))
      by_name true e true j = both (subst (λ k. slice_get (w ++ length m.memory.blocks ∷ []) k ≡ Some (length m.memory.blocks)) count (get_last w (length m.memory.blocks)))
      by_name true e false j = false_true (sym j ∙ eq-eqb (names.variable x) (names.variable y) (ap names.variable (eqb-true x y e)))
      by_name false e true j = false_true (sym e ∙ eq-eqb x y (apart x y stays kept (eqb-true (names.variable x) (names.variable y) j)))
      by_name false e false j = grown_both w (w ++ length m.memory.blocks ∷ []) (world_more w (length m.memory.blocks)) names (m.frame y) (n.frame (names.variable y)) (frames y kept)

-- another name is that of a block that was there
pub old_named : (m : State) (x y c : ℕ) → bound m.frame x (Some (length m.memory.blocks)) y ≡ Some c → c < length m.memory.blocks → m.frame y ≡ Some c
old_named m x y c e low = by_name (x == y) e
  where
    by_name : (same : Bool) → (if same then Some (length m.memory.blocks) else m.frame y) ≡ Some c → m.frame y ≡ Some c
    by_name true k = let q = some_same k in absurd (omega (arith, q, low))
    by_name false k = k

-- ---- a value written in the new block

pub changed_last : {A : Type 0} (f : A → A) (xs : List A) (x : A) → changed f (length xs) (xs ++ x ∷ []) ≡ xs ++ f x ∷ []
changed_last f [] x = refl
changed_last f (y ∷ xs) x = ap (λ zs. y ∷ zs) (changed_last f xs x)

pub written_last : (v : Value) (b : Block) (m : Memory) → write (whole (length m.blocks)) v (with_new b m) ≡ with_new (with_cell m.structs [] v b) m
written_last v b m = ap (λ bs. record m { blocks = bs }) (changed_last (with_cell m.structs [] v) m.blocks b)

-- ---- one change after another

module _ (names : Names) (outside : Location → Bool) where
  pub both_stay : (w : World) (m n : State) → BlocksStand names w m n → FramesStand names w m.frame n.frame → BothBegun names outside w w m n m n
  both_stay w m n stand frames = record { grows = world_same w; blocks = stand; frames = frames; same = λ l a. a; others = λ f g r r1 l a. a }

  pub both_on : (w u v : World) (m n next next_there last_ last_there : State) → BothBegun names outside w u m n next next_there → BothBegun names outside u v next next_there last_ last_there → BothBegun names outside w v m n last_ last_there
  both_on w u v m n next next_there last_ last_there h k = record {
    grows = world_on w u v h.grows k.grows;
    blocks = k.blocks;
    frames = k.frames;
    same = λ l a. k.same l (h.same l a);
    others = λ f g r r1 l a. k.others f g r r1 l (h.others f g r r1 l a);
  }
