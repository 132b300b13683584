-- The blocks of variables go in a program and in its slice: what is alike in both before is so after.
use Rattle.std.proofs.Common.{◌≡◌, ℕ, ◌==◌, List, [], ◌∷◌, length, Option, Some, None, Bool, true, false, ◌||◌, if◌then◌else◌, inl, inr, refl, sym, ap, ◌∙◌, subst, eqb-true, eq-eqb}
use Rattle.std.specs.Prelude.{option_map, option_and_then, is_some, slice_get}
use Rattle.std.proofs.lemmas.Bool.Decides.{eqb_tells}
use Rattle.std.proofs.lemmas.Bool.{ne_eqb}
use Rattle.c_language.proofs.Options.{none_there, some_same, map_there}
use Rattle.c_language.proofs.Tests.{by_answer, false_true}
use Rattle.c_meaning.specs.declared.value.Hop.{Hop}
use Rattle.c_meaning.specs.declared.value.Place.{Place}
use Rattle.c_meaning.specs.declared.value.Value.{Value}
use Rattle.c_meaning.specs.Cells.{Structs, cell_number}
use Rattle.c_meaning.specs.Memory.{Block, Memory, held, cell_in, cell, is_cell, read, gone, leave}
use Rattle.c_meaning.specs.Values.{State, bound, leave_block, variable_closed, all_closed}
use Rattle.c_meaning.proofs.Frames.{get_changed, get_other}
use Rattle.c_meaning.proofs.Origins.{length-changed}
use Rattle.dep_model.specs.declared.location.Location.{Location}
use Rattle.dep_model.proofs.Membership.{IsIn}
use Rattle.run_facts.specs.CellLocations.{location_of}
use Rattle.simulation.specs.Renaming.{World, Stands, AlikeCell, cell_at, Names, StandsForOne, BlocksStand, BothStand, neither, both, FramesStand, AlikeAt}

-- a state whose running function can name and has returned what another can and has
abbrev pub viewed : (ℕ → Option ℕ) → Option Value → State → State
viewed frame returned s = record s { frame = frame; returned = returned }

-- ---- which blocks go

abbrev pub is_named : Option ℕ → ℕ → Bool
is_named None b = false
is_named (Some c) b = c == b

-- one of these variables has this block
abbrev pub closes : (ℕ → Option ℕ) → List ℕ → ℕ → Bool
closes frame [] b = false
closes frame (x ∷ xs) b = is_named (frame x) b || closes frame xs b

abbrev gone_if : Bool → Block → Block
gone_if true b = gone b
gone_if false b = b

named_is : (o : Option ℕ) (b : ℕ) → is_named o b ≡ true → o ≡ Some b
named_is None b h = false_true h
named_is (Some c) b h = ap Some (eqb-true c b h)

is_named_is : (b : ℕ) → is_named (Some b) b ≡ true
is_named_is b = eq-eqb b b refl

closes_unbound : (frame : ℕ → Option ℕ) (x b : ℕ) (ys : List ℕ) → is_named (frame x) b ≡ false → closes (bound frame x None) ys b ≡ closes frame ys b
closes_unbound frame x b [] h = refl
closes_unbound frame x b (y ∷ ys) h =
    ap (λ t. t || closes (bound frame x None) ys b) (by_name (x == y) refl) ∙ ap (λ t. is_named (frame y) b || t) (closes_unbound frame x b ys h)
  where
    by_name : (same : Bool) → (x == y) ≡ same → is_named (if same then None else frame y) b ≡ is_named (frame y) b
    by_name true e = sym (ap (λ z. is_named (frame z) b) (sym (eqb-true x y e)) ∙ h)
    by_name false e = refl

left_block : (o : Option ℕ) (m : Memory) (b : ℕ) → slice_get (leave_block o m).blocks b ≡ option_map (gone_if (is_named o b)) (slice_get m.blocks b)
left_block None m b = same_there (slice_get m.blocks b)
  where
    same_there : (o : Option Block) → o ≡ option_map (gone_if false) o
    same_there None = refl
    same_there (Some k) = refl
left_block (Some n) m b =
    elim (eqb_tells n b) [
      | inl w ↦ ap (λ i. slice_get (leave i m).blocks b) w.1 ∙ (get_changed gone b m.blocks ∙ ap (λ t. option_map (gone_if t) (slice_get m.blocks b)) (sym (eq-eqb n b w.1)))
      | inr w ↦ get_other gone n b m.blocks w.1 ∙ (same_there (slice_get m.blocks b) ∙ ap (λ t. option_map (gone_if t) (slice_get m.blocks b)) (sym (ne_eqb n b w.1)))
    ]
  where
    same_there : (o : Option Block) → o ≡ option_map (gone_if false) o
    same_there None = refl
    same_there (Some k) = refl

gone_twice : (s t : Bool) (o : Option Block) → option_map (gone_if t) (option_map (gone_if s) o) ≡ option_map (gone_if (s || t)) o
gone_twice s t None = refl
gone_twice true true (Some b) = refl
gone_twice true false (Some b) = refl
gone_twice false t (Some b) = refl

or_by : (s t u : Bool) → (s ≡ false → t ≡ u) → (s || t) ≡ (s || u)
or_by true t u h = refl
or_by false t u h = h refl

-- the block with a number, once some variables are gone
pub closed_block : (xs : List ℕ) (s : State) (b : ℕ) → slice_get (all_closed xs s).memory.blocks b ≡ option_map (gone_if (closes s.frame xs b)) (slice_get s.memory.blocks b)
closed_block [] s b = same_there (slice_get s.memory.blocks b)
  where
    same_there : (o : Option Block) → o ≡ option_map (gone_if false) o
    same_there None = refl
    same_there (Some k) = refl
closed_block (x ∷ xs) s b =
    let rest = closed_block xs (variable_closed x s) b in
    let later = closes (variable_closed x s).frame xs b in
    rest
    ∙ (ap (option_map (gone_if later)) (left_block (s.frame x) s.memory b)
    ∙ (gone_twice (is_named (s.frame x) b) later (slice_get s.memory.blocks b)
    ∙ ap (λ t. option_map (gone_if t) (slice_get s.memory.blocks b)) (or_by (is_named (s.frame x) b) later (closes s.frame xs b) (λ h. closes_unbound s.frame x b xs h))))

-- ---- what stays of a state

left_structs : (o : Option ℕ) (m : Memory) → (leave_block o m).structs ≡ m.structs
left_structs None m = refl
left_structs (Some n) m = refl

left_length : (o : Option ℕ) (m : Memory) → length (leave_block o m).blocks ≡ length m.blocks
left_length None m = refl
left_length (Some n) m = length-changed gone n m.blocks

pub closed_structs : (xs : List ℕ) (s : State) → (all_closed xs s).memory.structs ≡ s.memory.structs
closed_structs [] s = refl
closed_structs (x ∷ xs) s = closed_structs xs (variable_closed x s) ∙ left_structs (s.frame x) s.memory

pub closed_length : (xs : List ℕ) (s : State) → length (all_closed xs s).memory.blocks ≡ length s.memory.blocks
closed_length [] s = refl
closed_length (x ∷ xs) s = closed_length xs (variable_closed x s) ∙ left_length (s.frame x) s.memory

pub closed_origins : (xs : List ℕ) (s : State) → (all_closed xs s).origins ≡ s.origins
closed_origins [] s = refl
closed_origins (x ∷ xs) s = closed_origins xs (variable_closed x s)

pub closed_unread : (xs : List ℕ) (s : State) → (all_closed xs s).unread ≡ s.unread
closed_unread [] s = refl
closed_unread (x ∷ xs) s = closed_unread xs (variable_closed x s)

-- ---- cells

abbrev cell_there : Structs → List Hop → Option Block → Option (Option Value)
cell_there structs path o = option_and_then (cell_in structs path) o

closed_cell : (xs : List ℕ) (s : State) (q : Place) → cell (all_closed xs s).memory q ≡ cell_there s.memory.structs q.path (option_map (gone_if (closes s.frame xs q.block)) (slice_get s.memory.blocks q.block))
closed_cell xs s q =
    ap (λ structs. cell_there structs q.path (slice_get (all_closed xs s).memory.blocks q.block)) (closed_structs xs s)
    ∙ ap (cell_there s.memory.structs q.path) (closed_block xs s q.block)

-- a block that is gone has no cells
gone_none : (structs : Structs) (path : List Hop) (o : Option Block) → cell_there structs path (option_map gone o) ≡ None
gone_none structs path None = refl
gone_none structs path (Some b) = by_number (cell_number structs path b.shape)
  where
    by_number : (n : Option ℕ) → option_and_then (slice_get (gone b).cells) n ≡ None
    by_number None = refl
    by_number (Some n) = refl

unchanged : (o : Option Block) → option_map (gone_if false) o ≡ o
unchanged None = refl
unchanged (Some b) = refl

kept_cell : (xs : List ℕ) (s : State) (q : Place) → closes s.frame xs q.block ≡ false → cell (all_closed xs s).memory q ≡ cell s.memory q
kept_cell xs s q h =
    closed_cell xs s q
    ∙ (ap (λ t. cell_there s.memory.structs q.path (option_map (gone_if t) (slice_get s.memory.blocks q.block))) h
    ∙ ap (cell_there s.memory.structs q.path) (unchanged (slice_get s.memory.blocks q.block)))

-- a cell that is live is of no block that is gone
live_kept : (xs : List ℕ) (s : State) (q : Place) → is_cell (all_closed xs s).memory q ≡ true → closes s.frame xs q.block ≡ false
live_kept xs s q live =
    by_answer (closes s.frame xs q.block) (λ h. false_true (sym (none h) ∙ live)) (λ h. h)
  where
    none : closes s.frame xs q.block ≡ true → is_cell (all_closed xs s).memory q ≡ false
    none h =
        ap is_some (closed_cell xs s q ∙ (ap (λ t. cell_there s.memory.structs q.path (option_map (gone_if t) (slice_get s.memory.blocks q.block))) h ∙ gone_none s.memory.structs q.path (slice_get s.memory.blocks q.block)))

pub closed_cells : (xs : List ℕ) (s : State) (q : Place) → is_cell (all_closed xs s).memory q ≡ true → cell (all_closed xs s).memory q ≡ cell s.memory q
closed_cells xs s q live = kept_cell xs s q (live_kept xs s q live)

-- ---- members

closed_by : (frame : ℕ → Option ℕ) (xs : List ℕ) (b : ℕ) → closes frame xs b ≡ true → (x : ℕ) × IsIn xs x × (frame x ≡ Some b)
closed_by frame [] b h = false_true h
closed_by frame (x ∷ xs) b h =
    by_answer (is_named (frame x) b) (λ e. (x, inl refl, named_is (frame x) b e)) (λ e. let k = closed_by frame xs b (later (is_named (frame x) b) e h) in (k.0, inr k.1, k.2))
  where
    later : (s : Bool) → s ≡ false → (s || closes frame xs b) ≡ true → closes frame xs b ≡ true
    later true e h = false_true (sym e)
    later false e h = h

closes_it : (frame : ℕ → Option ℕ) (xs : List ℕ) (x b : ℕ) → IsIn xs x → frame x ≡ Some b → closes frame xs b ≡ true
closes_it frame [] x b i e = absurd i
closes_it frame (y ∷ xs) x b (inl same) e =
    rw (ap (λ o. is_named o b) (ap frame same ∙ e) ∙ is_named_is b) refl
closes_it frame (y ∷ xs) x b (inr i) e = or_true (is_named (frame y) b) (closes_it frame xs x b i e)
  where
    or_true : (s : Bool) → closes frame xs b ≡ true → (s || closes frame xs b) ≡ true
    or_true true h = refl
    or_true false h = h

-- ---- both

-- each of these variables of the slice is one of those of the original that stays
abbrev pub AreAmong : Names → List ℕ → List ℕ → Type 0
AreAmong names xs ys = (y : ℕ) → IsIn ys y → (x : ℕ) × (names.stays x ≡ true) × (names.variable x ≡ y) × IsIn xs x

module _ (names : Names) (w : World) (m n : State) (xs ys : List ℕ) (among : AreAmong names xs ys) (frames : FramesStand names w m.frame n.frame) where
  stands_for_it : (b c : ℕ) (o u : Option ℕ) → BothStand names w o u → Stands w b c → u ≡ Some c → o ≡ Some b
  stands_for_it b c o u neither e j = none_there j
  stands_for_it b c o u (both h) e j = sym h ∙ (ap (slice_get w) (some_same j) ∙ e)

  -- a block that goes in the slice stands for one that goes in the original
  goes_here : (b c : ℕ) → Stands w b c → closes n.frame ys c ≡ true → closes m.frame xs b ≡ true
  goes_here b c e h =
      let k = closed_by n.frame ys c h in
      let v = among k.0 k.1 in
      closes_it m.frame xs v.0 b v.3 (stands_for_it b c (m.frame v.0) (n.frame (names.variable v.0)) (frames v.0 v.1) e (ap n.frame v.2 ∙ k.2))

  stays_there : (b c : ℕ) → Stands w b c → closes m.frame xs b ≡ false → closes n.frame ys c ≡ false
  stays_there b c e h = by_answer (closes n.frame ys c) (λ j. false_true (sym h ∙ goes_here b c e j)) (λ j. j)

  abbrev here : State
  here = all_closed xs m

  abbrev there : State
  there = all_closed ys n

  -- ---- blocks

  shape_is : (s t : Bool) (b c : Block) → c.shape ≡ b.shape → (gone_if t c).shape ≡ (gone_if s b).shape
  shape_is true true b c e = e
  shape_is true false b c e = e
  shape_is false true b c e = e
  shape_is false false b c e = e

  kind_is : (s t : Bool) (b c : Block) → c.kind ≡ b.kind → (gone_if t c).kind ≡ (gone_if s b).kind
  kind_is true true b c e = e
  kind_is true false b c e = e
  kind_is false true b c e = e
  kind_is false false b c e = e

  gone_too : (s t : Bool) (b c : Block) → (t ≡ true → s ≡ true) → (c.is_live ≡ false → b.is_live ≡ false) → (gone_if t c).is_live ≡ false → (gone_if s b).is_live ≡ false
  gone_too true t b c h j e = refl
  gone_too false true b c h j e = false_true (h refl)
  gone_too false false b c h j e = j e

  one_closed : (c : ℕ) (block : Block) → BlocksStand names w m n → slice_get there.memory.blocks c ≡ Some block → StandsForOne names w here there c block
  one_closed c block stand e =
      let k = map_there (gone_if (closes n.frame ys c)) (slice_get n.memory.blocks c) block (sym (closed_block ys n c) ∙ e) in
      let one = stand.each c k.value k.there in
      subst (λ z. StandsForOne names w here there c z) k.same
      (record {
        number = one.number;
        stands = one.stands;
        block = gone_if (closes m.frame xs one.number) one.block;
        block_is = closed_block xs m one.number ∙ ap (option_map (gone_if (closes m.frame xs one.number))) one.block_is;
        shape_is = shape_is (closes m.frame xs one.number) (closes n.frame ys c) one.block k.value one.shape_is;
        kind_is = kind_is (closes m.frame xs one.number) (closes n.frame ys c) one.block k.value one.kind_is;
        origin = one.origin;
        origin_there = one.origin_there;
        origin_is = ap (λ os. slice_get os one.number) (closed_origins xs m) ∙ one.origin_is;
        origin_there_is = ap (λ os. slice_get os c) (closed_origins ys n) ∙ one.origin_there_is;
        origins_are = one.origins_are;
        gone = gone_too (closes m.frame xs one.number) (closes n.frame ys c) one.block k.value (λ h. goes_here one.number c one.stands h) one.gone;
      })

  pub blocks_closed : BlocksStand names w m n → BlocksStand names w here there
  blocks_closed stand = record {
    structs_are = closed_structs xs m ∙ (stand.structs_are ∙ sym (closed_structs ys n));
    count_is = stand.count_is ∙ sym (closed_length ys n);
    each = λ c block e. one_closed c block stand e;
    one_to_one = stand.one_to_one;
  }

  -- ---- what is alike

  pub alike_closed : (outside : Location → Bool) (frame frame_there : ℕ → Option ℕ) (r u : Option Value) (l : Location) → AlikeAt outside w l (viewed frame r m) (viewed frame_there u n) → AlikeAt outside w l (viewed frame r here) (viewed frame_there u there)
  alike_closed outside frame frame_there r u l h = record {
    cells = λ b c path e counts live at.
        let kept = live_kept xs m (cell_at b path) live in
        let same = kept_cell xs m (cell_at b path) kept in
        let same_there = kept_cell ys n (cell_at c path) (stays_there b c e kept) in
        let before_ = h.cells b c path e counts (sym (ap is_some same) ∙ live) (ap (λ os. location_of os (cell_at b path)) (sym (closed_origins xs m)) ∙ at) in
        subst (λ z. AlikeCell w z (read there.memory (cell_at c path))) (sym (ap (option_and_then held) same)) (subst (λ z. AlikeCell w (read m.memory (cell_at b path)) z) (sym (ap (option_and_then held) same_there)) before_);
    input = λ e. closed_unread xs m ∙ (h.input e ∙ sym (closed_unread ys n));
    result = h.result;
  }
