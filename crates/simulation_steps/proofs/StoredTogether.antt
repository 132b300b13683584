-- Stores of alike values at places that stand for one another keep what is alike, in each block.
use Rattle.std.proofs.Common.{◌≡◌, ℕ, zero, suc, List, [], ◌∷◌, drop, Option, Some, None, Bool, true, ◌⊎◌, inl, inr, refl, sym, ap, ap₂, ◌∙◌, subst}
use Rattle.std.specs.Prelude.{option_and_then, is_some, slice_get}
use Rattle.std.specs.Option.{option_or}
use Rattle.std.proofs.lemmas.Bool.Decides.{eqb_tells}
use Rattle.std.proofs.lemmas.List.{append-nil}
use Rattle.c_language.proofs.Options.{none_there, some_same}
use Rattle.c_language.specs.declared.expr_type.ExprType.{ExprType}
use Rattle.c_meaning.specs.declared.value.Hop.{Hop}
use Rattle.c_meaning.specs.declared.value.Place.{Place}
use Rattle.c_meaning.specs.declared.value.Value.{Value}
use Rattle.c_meaning.specs.Cells.{cell_number}
use Rattle.c_meaning.specs.Memory.{Block, Memory, held, cell_in, cell, is_cell, read, changed, with_cell, write}
use Rattle.c_meaning.specs.Values.{State, leave_block}
use Rattle.c_meaning.specs.Acts.{Store, Request, Made, stored, with_begun, origins_after, after}
use Rattle.c_meaning.specs.Steps.{Waiting}
use Rattle.c_meaning.proofs.Origins.{blocks_stored}
use Rattle.dep_model.specs.declared.location.Location.{Location}
use Rattle.run_facts.specs.KeptCells.{IsSameCell}
use Rattle.run_facts.proofs.KeptMemories.{same_before, write_keeps, stored_live}
use Rattle.run_facts.proofs.WrittenCells.{written, write_there}
use Rattle.simulation.specs.Agreeing.{Together}
use Rattle.simulation.specs.Places.{Position}
use Rattle.simulation.specs.Renaming.{World, Stands, AlikeValue, AlikeCell, empty, held as both_hold, cell_at, Names, StandsForOne, BlocksStand, FramesStand, AlikeAt}
use Rattle.simulation.specs.Settings.{seen}
use Rattle.simulation.specs.Slicings.{Slicing, setting_of}
use Rattle.simulation_steps.proofs.Outcomes.{AlikeList, nil, cons, AlikePlace, AlikeStore, AlikeBlock, no_block, one_block, AlikeMade, CellsStand}
use Rattle.simulation_steps.proofs.StandingObjects.{both_there}

-- ---- what a write leaves of blocks

pub record SameFace (b d : Block) : Type 0 where
  pub shape_is : d.shape ≡ b.shape
  pub kind_is : d.kind ≡ b.kind
  pub live_is : d.is_live ≡ b.is_live

same_face : (b : Block) → SameFace b b
same_face b = record { shape_is = refl; kind_is = refl; live_is = refl }

face_on : (a b c : Block) → SameFace a b → SameFace b c → SameFace a c
face_on a b c h k = record { shape_is = k.shape_is ∙ h.shape_is; kind_is = k.kind_is ∙ h.kind_is; live_is = k.live_is ∙ h.live_is }

changed_back : (f : Block → Block) → ((b : Block) → SameFace b (f b)) → (i : ℕ) (bs : List Block) (n : ℕ) (d : Block) → slice_get (changed f i bs) n ≡ Some d → (b : Block) × (slice_get bs n ≡ Some b) × SameFace b d
changed_back f k i [] n d e = none_there e
changed_back f k zero (b ∷ bs) zero d e = (b, refl, subst (SameFace b) (some_same e) (k b))
changed_back f k zero (b ∷ bs) (suc n) d e = (d, e, same_face d)
changed_back f k (suc i) (b ∷ bs) zero d e = (d, e, same_face d)
changed_back f k (suc i) (b ∷ bs) (suc n) d e = changed_back f k i bs n d e

changed_on : (f : Block → Block) → ((b : Block) → SameFace b (f b)) → (i : ℕ) (bs : List Block) (n : ℕ) (b : Block) → slice_get bs n ≡ Some b → (d : Block) × (slice_get (changed f i bs) n ≡ Some d) × SameFace b d
changed_on f k i [] n b e = none_there e
changed_on f k zero (c ∷ bs) zero b e = (f b, ap (λ (o : Block). Some (f o)) (some_same e), k b)
changed_on f k zero (c ∷ bs) (suc n) b e = (b, e, same_face b)
changed_on f k (suc i) (c ∷ bs) zero b e = (b, e, same_face b)
changed_on f k (suc i) (c ∷ bs) (suc n) b e = changed_on f k i bs n b e

cell_face : (m : Memory) (q : Place) (v : Value) (b : Block) → SameFace b (with_cell m.structs q.path v b)
cell_face m q v b = record { shape_is = refl; kind_is = refl; live_is = refl }

stored_back : (ws : List Store) (m : Memory) (n : ℕ) (d : Block) → slice_get (stored ws m).blocks n ≡ Some d → (b : Block) × (slice_get m.blocks n ≡ Some b) × SameFace b d
stored_back [] m n d e = (d, e, same_face d)
stored_back (w ∷ ws) m n d e =
    let k = stored_back ws (write w.place w.value m) n d e in
    let h = changed_back (with_cell m.structs w.place.path w.value) (cell_face m w.place w.value) w.place.block m.blocks n k.0 k.1 in
    (h.0, h.1, face_on h.0 k.0 d h.2 k.2)

stored_on : (ws : List Store) (m : Memory) (n : ℕ) (b : Block) → slice_get m.blocks n ≡ Some b → (d : Block) × (slice_get (stored ws m).blocks n ≡ Some d) × SameFace b d
stored_on [] m n b e = (b, e, same_face b)
stored_on (w ∷ ws) m n b e =
    let h = changed_on (with_cell m.structs w.place.path w.value) (cell_face m w.place w.value) w.place.block m.blocks n b e in
    let k = stored_on ws (write w.place w.value m) n h.0 h.1 in
    (k.0, k.1, face_on b h.0 k.0 h.2 k.2)

structs_stored : (ws : List Store) (m : Memory) → (stored ws m).structs ≡ m.structs
structs_stored [] m = refl
structs_stored (w ∷ ws) m = structs_stored ws (write w.place w.value m)

-- ---- a cell that is written under any path to it

pub option_tells : (o p : Option ℕ) → (o ≡ p) ⊎ (o ≡ p → ⊥)
option_tells None None = inl refl
option_tells None (Some n) = inr (λ e. none_there e)
option_tells (Some n) None = inr (λ e. none_there (sym e))
option_tells (Some n) (Some k) = elim (eqb_tells n k) [ inl x ↦ inl (ap Some x.1) | inr x ↦ inr (λ e. x.1 (some_same e)) ]

same_after : (m : Memory) (p q : Place) (v : Value) → IsSameCell m p q → IsSameCell (write p v m) p q
same_after m p q v h = same_before (write p v m) m p q refl (record { shapes = λ k b e. let t = changed_back (with_cell m.structs p.path v) (cell_face m p v) p.block m.blocks k b e in (t.0, t.1, sym t.2.shape_is) }) h

one_cell : (m : Memory) (p q : Place) → IsSameCell m p q → cell m p ≡ cell m q
one_cell m p q h = ap (λ (n : ℕ). option_and_then (cell_in m.structs p.path) (slice_get m.blocks n)) h.block_is ∙ by_block (slice_get m.blocks q.block) (ap (slice_get m.blocks) h.block_is)
  where
    by_block : (o : Option Block) → slice_get m.blocks p.block ≡ o → option_and_then (cell_in m.structs p.path) o ≡ option_and_then (cell_in m.structs q.path) o
    by_block None e = refl
    by_block (Some b) e = ap (option_and_then (slice_get b.cells)) (h.numbers_are b e)

pub write_same : (m : Memory) (p q : Place) (v : Value) → IsSameCell m p q → is_cell m q ≡ true → read (write p v m) q ≡ Some v
write_same m p q v h live =
    let before : is_cell m p ≡ true = ap is_some (one_cell m p q h) ∙ live in
    ap (option_and_then held) (sym (one_cell (write p v m) p q (same_after m p q v h)) ∙ written m p v before)

-- ---- both programs store

module _ (names : Names) (w : World) where
  -- the state with other cells
  abbrev pub storing_in : List Store → State → State
  storing_in ws s = record s { memory = stored ws s.memory }

  one_stored : (ws xs : List Store) (s t : State) (c : ℕ) (d e : Block) → slice_get t.memory.blocks c ≡ Some e → SameFace e d → StandsForOne names w s t c e → StandsForOne names w (storing_in ws s) (storing_in xs t) c d
  one_stored ws xs s t c d e is face h =
      let b = stored_on ws s.memory h.number h.block h.block_is in
      record {
        number = h.number;
        stands = h.stands;
        block = b.0;
        block_is = b.1;
        shape_is = face.shape_is ∙ (h.shape_is ∙ sym b.2.shape_is);
        kind_is = face.kind_is ∙ (h.kind_is ∙ sym b.2.kind_is);
        origin = h.origin;
        origin_there = h.origin_there;
        origin_is = h.origin_is;
        origin_there_is = h.origin_there_is;
        origins_are = h.origins_are;
        gone = λ g. b.2.live_is ∙ h.gone (sym face.live_is ∙ g);
      }

  pub blocks_stored_in : (ws xs : List Store) (s t : State) → BlocksStand names w s t → BlocksStand names w (storing_in ws s) (storing_in xs t)
  blocks_stored_in ws xs s t h = record {
    structs_are = structs_stored ws s.memory ∙ (h.structs_are ∙ sym (structs_stored xs t.memory));
    count_is = h.count_is ∙ sym (blocks_stored xs t.memory);
    each = λ c d e. let k = stored_back xs t.memory c d e in one_stored ws xs s t c d k.0 k.1 k.2 (h.each c k.0 k.1);
    one_to_one = h.one_to_one;
  }

  -- ---- one cell

  module _ (s t : State) (blocks : BlocksStand names w s t) where
    abbrev m : Memory
    m = s.memory

    abbrev n : Memory
    n = t.memory

    cell_there : (p r : Place) (b c : ℕ) (path : List Hop) → AlikePlace w p r → Stands w b c → IsSameCell m p (cell_at b path) → IsSameCell n r (cell_at c path)
    cell_there p r b c path place e h =
        let k = both_there names w s t blocks p.block r.block place.stands in
        record {
          block_is = blocks.one_to_one b r.block c (subst (λ i. Stands w i r.block) h.block_is place.stands) e;
          numbers_are = λ d is.
              let same : d ≡ k.there = some_same (sym is ∙ k.there_is) in
              let here = h.numbers_are k.block k.block_is in
              subst (λ (x : Block). cell_number n.structs r.path x.shape ≡ cell_number n.structs path x.shape) (sym same) (subst (λ (shape : ExprType). cell_number n.structs r.path shape ≡ cell_number n.structs path shape) (sym k.shape_is) (subst (λ ss. cell_number ss r.path k.block.shape ≡ cell_number ss path k.block.shape) blocks.structs_are (subst (λ (hops : List Hop). cell_number m.structs hops k.block.shape ≡ cell_number m.structs path k.block.shape) (sym place.path_is) here)));
        }

    cell_here : (p r : Place) (b c : ℕ) (path : List Hop) → AlikePlace w p r → Stands w b c → IsSameCell n r (cell_at c path) → IsSameCell m p (cell_at b path)
    cell_here p r b c path place e h =
        let k = both_there names w s t blocks p.block r.block place.stands in
        record {
          block_is = some_same (sym place.stands ∙ (ap (slice_get w) h.block_is ∙ e));
          numbers_are = λ d is.
              let same : d ≡ k.block = some_same (sym is ∙ k.block_is) in
              let there = h.numbers_are k.there k.there_is in
              subst (λ (x : Block). cell_number m.structs p.path x.shape ≡ cell_number m.structs path x.shape) (sym same) (subst (λ (hops : List Hop). cell_number m.structs hops k.block.shape ≡ cell_number m.structs path k.block.shape) place.path_is (subst (λ ss. cell_number ss r.path k.block.shape ≡ cell_number ss path k.block.shape) (sym blocks.structs_are) (subst (λ (shape : ExprType). cell_number n.structs r.path shape ≡ cell_number n.structs path shape) k.shape_is there)));
        }

    same_tells : (p : Place) (r : Place) (b c : ℕ) (path : List Hop) → AlikePlace w p r → IsSameCell m p (cell_at b path) ⊎ (IsSameCell m p (cell_at b path) → ⊥)
    same_tells p r b c path place =
        let k = both_there names w s t blocks p.block r.block place.stands in
        elim (eqb_tells p.block b) [
          | inr x ↦ inr (λ h. x.1 h.block_is)
          | inl x ↦ elim (option_tells (cell_number m.structs p.path k.block.shape) (cell_number m.structs path k.block.shape)) [
            | inr y ↦ inr (λ h. y (h.numbers_are k.block k.block_is))
            | inl y ↦ inl (record { block_is = x.1; numbers_are = λ d is. subst (λ (z : Block). cell_number m.structs p.path z.shape ≡ cell_number m.structs path z.shape) (some_same (sym k.block_is ∙ is)) y })
          ]
        ]

    -- a cell that is overwritten in both
    pub over_alike : (p r : Place) (v u : Value) (b c : ℕ) (path : List Hop) → AlikePlace w p r → AlikeValue w v u → Stands w b c → IsSameCell m p (cell_at b path) → is_cell m (cell_at b path) ≡ true → is_cell n (cell_at c path) ≡ true → AlikeCell w (read (write p v m) (cell_at b path)) (read (write r u n) (cell_at c path))
    over_alike p r v u b c path place value e same live live_there =
        subst (λ z. AlikeCell w z (read (write r u n) (cell_at c path))) (sym (write_same m p (cell_at b path) v same live)) (subst (λ z. AlikeCell w (Some v) z) (sym (write_same n r (cell_at c path) u (cell_there p r b c path place e same) live_there)) (both_hold value))

    write_alike : (p r : Place) (v u : Value) (b c : ℕ) (path : List Hop) → AlikePlace w p r → AlikeValue w v u → Stands w b c → is_cell m (cell_at b path) ≡ true → is_cell n (cell_at c path) ≡ true → AlikeCell w (read m (cell_at b path)) (read n (cell_at c path)) → AlikeCell w (read (write p v m) (cell_at b path)) (read (write r u n) (cell_at c path))
    write_alike p r v u b c path place value e live live_there h =
        elim (same_tells p r b c path place) [
          | inl same ↦ over_alike p r v u b c path place value e same live live_there
          | inr other ↦ subst (λ z. AlikeCell w z (read (write r u n) (cell_at c path))) (sym (ap (option_and_then held) (write_keeps m p (cell_at b path) v other))) (subst (λ z. AlikeCell w (read m (cell_at b path)) z) (sym (ap (option_and_then held) (write_keeps n r (cell_at c path) u (λ same. other (cell_here p r b c path place e same))))) h)
        ]

  -- ---- stores, one after another

  pub stores_alike : (ws xs : List Store) (s t : State) (b c : ℕ) (path : List Hop) → AlikeList (AlikeStore w) ws xs → BlocksStand names w s t → Stands w b c → is_cell s.memory (cell_at b path) ≡ true → is_cell t.memory (cell_at c path) ≡ true → AlikeCell w (read s.memory (cell_at b path)) (read t.memory (cell_at c path)) → AlikeCell w (read (stored ws s.memory) (cell_at b path)) (read (stored xs t.memory) (cell_at c path))
  stores_alike ws xs s t b c path nil blocks e live live_there h = h
  stores_alike ws xs s t b c path (cons {a = x} {b = y} {as_ = us} {bs = vs} k more) blocks e live live_there h =
      stores_alike us vs (storing_in (x ∷ []) s) (storing_in (y ∷ []) t) b c path more (blocks_stored_in (x ∷ []) (y ∷ []) s t blocks) e (write_there s.memory x.place (cell_at b path) x.value live) (write_there t.memory y.place (cell_at c path) y.value live_there) (write_alike s t blocks x.place y.place x.value y.value b c path k.place k.value e live live_there h)

-- ---- an act that begins and frees nothing

abbrev pub quiet_after : Made → State → State
quiet_after v s = record s {
  returned = option_or v.returned s.returned;
  memory = stored v.stores s.memory;
  unread = drop v.taken s.unread;
}

pub after_quiet : (i : ℕ) (v : Made) (s : State) → v.begun ≡ None → v.freed ≡ None → after i v s ≡ quiet_after v s
after_quiet i v s begun freed =
    ap₂ (λ (o : Option Request) (f : Option ℕ). record s { returned = option_or v.returned s.returned; memory = stored v.stores (leave_block f (with_begun o s.memory)); origins = origins_after i o s.origins; unread = drop v.taken s.unread }) begun freed

module _ (names : Names) (outside : Location → Bool) (w : World) (s t : State) (blocks : BlocksStand names w s t) (cells : CellsStand w s t) (v u : Made) (made_ : AlikeMade w v u) where
  pub quiet_blocks : BlocksStand names w (quiet_after v s) (quiet_after u t)
  quiet_blocks =
      let h = blocks_stored_in names w v.stores u.stores s t blocks in
      record { structs_are = h.structs_are; count_is = h.count_is; each = λ c d e. again c d (h.each c d e); one_to_one = h.one_to_one }
    where
      again : (c : ℕ) (d : Block) → StandsForOne names w (storing_in names w v.stores s) (storing_in names w u.stores t) c d → StandsForOne names w (quiet_after v s) (quiet_after u t) c d
      again c d o = record {
        number = o.number;
        stands = o.stands;
        block = o.block;
        block_is = o.block_is;
        shape_is = o.shape_is;
        kind_is = o.kind_is;
        origin = o.origin;
        origin_there = o.origin_there;
        origin_is = o.origin_is;
        origin_there_is = o.origin_there_is;
        origins_are = o.origins_are;
        gone = o.gone;
      }

  pub cells_after : (b c : ℕ) (path : List Hop) → Stands w b c → is_cell (stored v.stores s.memory) (cell_at b path) ≡ true → AlikeCell w (read s.memory (cell_at b path)) (read t.memory (cell_at c path)) → AlikeCell w (read (stored v.stores s.memory) (cell_at b path)) (read (stored u.stores t.memory) (cell_at c path))
  cells_after b c path e live h =
      let before = stored_live v.stores s.memory (cell_at b path) live in
      stores_alike names w v.stores u.stores s t b c path made_.stores blocks e before (cells (cell_at b path) c e before) h

  pub unread_after : s.unread ≡ t.unread → drop v.taken s.unread ≡ drop u.taken t.unread
  unread_after e = ap₂ (λ (k : ℕ) (bs : List ℕ). drop k bs) (sym made_.taken) e

  or_alike : (a b c d : Option Value) → AlikeCell w a c → AlikeCell w b d → AlikeCell w (option_or a b) (option_or c d)
  or_alike a b c d empty h = h
  or_alike a b c d (both_hold e) h = both_hold e

  pub returned_after : AlikeCell w s.returned t.returned → AlikeCell w (option_or v.returned s.returned) (option_or u.returned t.returned)
  returned_after h = or_alike v.returned s.returned u.returned t.returned made_.returned h

  -- what is alike at a location stays so, for the activation that stores, and for those that wait
  pub quiet_alike : (l : Location) → AlikeAt outside w l s t → AlikeAt outside w l (quiet_after v s) (quiet_after u t)
  quiet_alike l h = record {
    cells = λ b c path e counts live at. cells_after b c path e live (h.cells b c path e counts (stored_live v.stores s.memory (cell_at b path) live) at);
    input = λ e. unread_after (h.input e);
    result = λ f e. returned_after (h.result f e);
  }

  pub quiet_callers : (a b : Waiting) (l : Location) → AlikeAt outside w l (seen a s) (seen b t) → AlikeAt outside w l (seen a (quiet_after v s)) (seen b (quiet_after u t))
  quiet_callers a b l h = record {
    cells = λ d c path e counts live at. cells_after d c path e live (h.cells d c path e counts (stored_live v.stores s.memory (cell_at d path) live) at);
    input = λ e. unread_after (h.input e);
    result = h.result;
  }

none_freed : (w : World) (o p : Option ℕ) → AlikeBlock w o p → o ≡ None → p ≡ None
none_freed w o p no_block e = refl
none_freed w o p (one_block h) e = none_there (sym e)

-- so both go on together, where what is killed is alike after
module _ (k : Slicing) (wanted : Location → Position → Type 0) (holds : ℕ → Type 0) (w : World) (f : ℕ) (callers : List Waiting) (kills : Location → Bool) (m n : State) where
  abbrev Goes : State → State → Type 0
  Goes m1 n1 = Together (setting_of k wanted holds) w f callers kills m n m1 n1

  pub stored_together : (i j : ℕ) (v u : Made) → BlocksStand k.names w m n → FramesStand k.names w m.frame n.frame → CellsStand w m n → AlikeMade w v u → v.begun ≡ None → v.freed ≡ None → ((l : Location) → kills l ≡ true → AlikeAt k.outside w l (quiet_after v m) (quiet_after u n)) → Goes (after i v m) (after j u n)
  stored_together i j v u blocks frames cells made_ begun freed over =
      subst (λ (z : State). Goes z (after j u n)) (sym (after_quiet i v m begun freed)) (subst (λ (z : State). Goes (quiet_after v m) z) (sym (after_quiet j u n (made_.begun ∙ begun) (none_freed w v.freed u.freed made_.freed freed))) quiet)
    where
      quiet : Goes (quiet_after v m) (quiet_after u n)
      quiet = record {
        world = w;
        grows = record { more = []; world_is = sym (append-nil w) };
        blocks = quiet_blocks k.names k.outside w m n blocks cells v u made_;
        frames = frames;
        same = λ l h. elim h [ inl kl ↦ over l kl | inr a ↦ quiet_alike k.names k.outside w m n blocks cells v u made_ l a ];
        waiting = λ above a b below l e stands unmodified same. quiet_callers k.names k.outside w m n blocks cells v u made_ a b l same;
      }
