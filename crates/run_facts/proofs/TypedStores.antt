-- A typed state stays typed where blocks begin and go, and where values are stored that are of their places' types.
use Rattle.std.proofs.Common.{◌≡◌, ℕ, zero, suc, List, [], ◌∷◌, length, Option, Some, None, refl, sym, ap, ◌∙◌, subst}
use Rattle.std.specs.Prelude.{option_and_then, is_some, slice_get}
use Rattle.std.specs.Option.{option_or}
use Rattle.c_language.proofs.Options.{none_there, some_same, then_there}
use Rattle.c_tree.specs.declared.program.Program.{Program}
use Rattle.c_language.specs.declared.expr_type.ExprType.{ExprType}
use Rattle.c_meaning.specs.declared.value.Place.{Place}
use Rattle.c_meaning.specs.declared.value.Value.{Value}
use Rattle.c_meaning.specs.Memory.{Entered, Allocated, Block, Memory, changed, held, cell, read, write, unwritten, array_of, gone}
use Rattle.c_meaning.specs.Pointers.{type_at}
use Rattle.c_meaning.specs.Values.{Types, Origin, OfVariable, OfStatement, State, leave_block, variable_closed, variable_opened, all_closed, bound}
use Rattle.c_meaning.specs.Acts.{Store, Request, Made, stored, with_begun, origins_after, after}
use Rattle.c_meaning.proofs.Origins.{length-changed}
use Rattle.dep_model.specs.Denoted.{TargetsOf}
use Rattle.dep_model.specs.LocationLists.{AreStructsInOrder}
use Rattle.run_facts.specs.CellLocations.{location_in}
use Rattle.run_facts.specs.TypedStates.{IsBlockOf, IsSiteBlock, IsVariableBlock, IsValue, IsTypedState}
use Rattle.run_facts.proofs.Blocks.{AreNamed, IsPlaced, placed_closed, placed_opened, named_grown, grows_after}
use Rattle.run_facts.proofs.BegunBlocks.{typed_begun, unwritten_holds, begun_later}
use Rattle.run_facts.proofs.KeptMemories.{leave_keeps}
use Rattle.run_facts.proofs.LaterStates.{IsLater, shapes_same, shapes_left, shapes_written, later_on, type_later, value_later}
use Rattle.run_facts.proofs.Subobjects.{path_type, type_at_is, at_place}
use Rattle.run_facts.proofs.WrittenStates.{write_typed}

-- ---- states that hold no more

-- each block was there before, with its type
abbrev pub AreOld : List Block → List Block → Type 0
AreOld bs cs = (n : ℕ) (c : Block) → slice_get cs n ≡ Some c → (b : Block) × ((slice_get bs n ≡ Some b) × (c.shape ≡ b.shape))

old_changed : (f : Block → Block) → ((b : Block) → (f b).shape ≡ b.shape) → (i : ℕ) (bs : List Block) → AreOld bs (changed f i bs)
old_changed f same i [] n c e = none_there e
old_changed f same zero (b ∷ bs) zero c e = (b, (refl, ap (λ (k : Block). k.shape) (sym (some_same e)) ∙ same b))
old_changed f same zero (b ∷ bs) (suc n) c e = (c, (e, refl))
old_changed f same (suc i) (b ∷ bs) zero c e = (c, (e, refl))
old_changed f same (suc i) (b ∷ bs) (suc n) c e = old_changed f same i bs n c e

pub old_left : (o : Option ℕ) (m : Memory) → AreOld m.blocks (leave_block o m).blocks
old_left None m n c e = (c, (e, refl))
old_left (Some k) m n c e = old_changed gone (λ b. refl) k m.blocks n c e

-- a state that has the blocks of one before, some of which may be gone
pub record HoldsLess (s t : State) : Type 0 where
  pub later : IsLater s t
  pub old : AreOld s.memory.blocks t.memory.blocks
  pub origins_are : t.origins ≡ s.origins
  pub reads : (q : Place) (v : Value) → read t.memory q ≡ Some v → read s.memory q ≡ Some v

module _ (s t : State) (h : HoldsLess s t) where
  type_before : (q : Place) (u : ExprType) → type_at t.memory q ≡ Some u → type_at s.memory q ≡ Some u
  type_before q u e =
      let a = at_place t.memory q u e in
      let b = h.old q.block a.block a.block_is in
      type_at_is s.memory q
      ∙ (ap (option_and_then (λ (k : Block). path_type s.memory.structs q.path k.shape)) b.1.0
      ∙ (ap (path_type s.memory.structs q.path) (sym b.1.1) ∙ (ap (λ z. path_type z q.path a.block.shape) (sym h.later.structs_are) ∙ a.type_is)))

  pub less_typed : (p : Program) (points : TargetsOf) → IsTypedState p points s → length t.origins ≡ length t.memory.blocks → AreNamed t.frame t.origins → IsTypedState p points t
  less_typed p points typed long named = record {
    structs_are = h.later.structs_are ∙ typed.structs_are;
    tracked = long;
    named = named;
    blocks = λ n o c made there.
        let b = h.old n c there in
        subst (IsBlockOf p o) (sym b.1.1) (typed.blocks n o b.0 (ap (λ os. slice_get os n) (sym h.origins_are) ∙ made) b.1.0);
    cells = λ q v u o r e made.
        value_later s t h.later p u (points (location_in o q.path)) v
        (typed.cells q v u o (h.reads q v r) (type_before q u e) (ap (λ os. slice_get os q.block) (sym h.origins_are) ∙ made));
  }

-- ---- what is named, returned and unread decides nothing

module _ (s : State) (frame : ℕ → Option ℕ) (returned : Option Value) (unread : List ℕ) where
  abbrev pub recast : State
  recast = record s { frame = frame; returned = returned; unread = unread }

  recast_less : HoldsLess s recast
  recast_less = record {
    later = record { structs_are = refl; shapes = shapes_same s.memory.blocks; origins = λ n o e. e };
    old = λ n c e. (c, (e, refl));
    origins_are = refl;
    reads = λ q v e. e;
  }

  pub recast_later : IsLater s recast
  recast_later = recast_less.later

  pub recast_typed : (p : Program) (points : TargetsOf) → IsTypedState p points s → AreNamed frame s.origins → IsTypedState p points recast
  recast_typed p points typed named = less_typed s recast recast_less p points typed typed.tracked named

-- ---- blocks that go

module _ (o : Option ℕ) (s : State) where
  abbrev pub left_state : State
  left_state = record s { memory = leave_block o s.memory }

  structs_left : (k : Option ℕ) (m : Memory) → (leave_block k m).structs ≡ m.structs
  structs_left None m = refl
  structs_left (Some n) m = refl

  long_left : (k : Option ℕ) (m : Memory) → length (leave_block k m).blocks ≡ length m.blocks
  long_left None m = refl
  long_left (Some n) m = length-changed gone n m.blocks

  read_left : (q : Place) (v : Value) → read (leave_block o s.memory) q ≡ Some v → read s.memory q ≡ Some v
  read_left q v e =
      let k = then_there held (cell (leave_block o s.memory) q) v e in
      ap (option_and_then held) (sym (leave_keeps o s.memory q (ap is_some k.there))) ∙ e

  left_less : HoldsLess s left_state
  left_less = record {
    later = record { structs_are = structs_left o s.memory; shapes = shapes_left o s.memory; origins = λ n k e. e };
    old = old_left o s.memory;
    origins_are = refl;
    reads = read_left;
  }

  pub left_later : IsLater s left_state
  left_later = left_less.later

  pub left_typed : (p : Program) (points : TargetsOf) → IsTypedState p points s → IsTypedState p points left_state
  left_typed p points typed = less_typed s left_state left_less p points typed (typed.tracked ∙ sym (long_left o s.memory)) typed.named

pub typed_placed : (p : Program) (points : TargetsOf) (s : State) → IsTypedState p points s → IsPlaced s
typed_placed p points s typed = record { tracked = typed.tracked; named = typed.named }

module _ (x : ℕ) (s : State) where
  abbrev left_first : State
  left_first = left_state (s.frame x) s

  one_later : IsLater s (variable_closed x s)
  one_later = later_on s left_first (variable_closed x s) (left_later (s.frame x) s) (recast_later left_first (variable_closed x s).frame s.returned s.unread)

  one_closed : (p : Program) (points : TargetsOf) → IsTypedState p points s → IsTypedState p points (variable_closed x s)
  one_closed p points typed =
      recast_typed left_first (variable_closed x s).frame s.returned s.unread p points (left_typed (s.frame x) s p points typed)
      (placed_closed (x ∷ []) s (typed_placed p points s typed)).named

-- variables that go
pub closed_later : (xs : List ℕ) (s : State) → IsLater s (all_closed xs s)
closed_later [] s = recast_later s s.frame s.returned s.unread
closed_later (x ∷ xs) s = later_on s (variable_closed x s) (all_closed xs (variable_closed x s)) (one_later x s) (closed_later xs (variable_closed x s))

pub closed_typed : (p : Program) (points : TargetsOf) (xs : List ℕ) (s : State) → IsTypedState p points s → IsTypedState p points (all_closed xs s)
closed_typed p points [] s typed = typed
closed_typed p points (x ∷ xs) s typed = closed_typed p points xs (variable_closed x s) (one_closed x s p points typed)

module _ (p : Program) (points : TargetsOf) where
  -- ---- a variable begins

  pub opened_typed : (types : Types) (x : ℕ) (s : State) → IsVariableBlock p x (types.typing.variable x) → IsTypedState p points s → IsTypedState p points (variable_opened types x s)
  opened_typed types x s block typed =
      let b = unwritten s.memory.structs (types.typing.variable x) Entered in
      typed_begun p points s typed (bound s.frame x (Some (length s.memory.blocks))) (OfVariable x) b block
      (λ path v t e k. unwritten_holds s.memory.structs (types.typing.variable x) Entered path v e)
      (placed_opened types x s (typed_placed p points s typed)).named

  pub opened_later : (types : Types) (x : ℕ) (s : State) → IsTypedState p points s → IsLater s (variable_opened types x s)
  opened_later types x s typed = begun_later p points s typed (bound s.frame x (Some (length s.memory.blocks))) (OfVariable x) (unwritten s.memory.structs (types.typing.variable x) Entered)

  -- ---- values that are stored

  -- what is stored at a place is of the place's type, and leads to where its location may point
  pub record IsFitStore (s : State) (w : Store) : Type 0 where
    pub type : ExprType
    pub type_is : type_at s.memory w.place ≡ Some type
    pub origin : Origin
    pub origin_is : slice_get s.origins w.place.block ≡ Some origin
    pub value_is : IsValue p s type (points (location_in origin w.place.path)) w.value

  abbrev pub AreFit : State → List Store → Type 0
  AreFit s [] = Unit {0}
  AreFit s (w ∷ ws) = IsFitStore s w × AreFit s ws

  fit_later : (s t : State) → IsLater s t → (w : Store) → IsFitStore s w → IsFitStore t w
  fit_later s t h w k = record {
    type = k.type;
    type_is = type_later s t h w.place k.type k.type_is;
    origin = k.origin;
    origin_is = h.origins w.place.block k.origin k.origin_is;
    value_is = value_later s t h p k.type (points (location_in k.origin w.place.path)) w.value k.value_is;
  }

  pub all_fit_later : (s t : State) → IsLater s t → (ws : List Store) → AreFit s ws → AreFit t ws
  all_fit_later s t h [] k = tt
  all_fit_later s t h (w ∷ ws) k = (fit_later s t h w k.0, all_fit_later s t h ws k.1)

  abbrev pub written_state : State → Store → State
  written_state s w = record s { memory = write w.place w.value s.memory }

  pub written_later : (s : State) (w : Store) → IsLater s (written_state s w)
  written_later s w = record { structs_are = refl; shapes = shapes_written w.place w.value s.memory; origins = λ n o e. e }

  abbrev pub stored_state : State → List Store → State
  stored_state s ws = record s { memory = stored ws s.memory }

  pub stored_later : (ws : List Store) (s : State) → IsLater s (stored_state s ws)
  stored_later [] s = recast_later s s.frame s.returned s.unread
  stored_later (w ∷ ws) s = later_on s (written_state s w) (stored_state (written_state s w) ws) (written_later s w) (stored_later ws (written_state s w))

  -- ---- an act

  module _ (i : ℕ) (s : State) where
    -- the state once the block of a malloc has begun
    abbrev pub begun_state : Option Request → State
    begun_state o = record s { memory = with_begun o s.memory; origins = origins_after i o s.origins }

    abbrev pub IsSiteFor : Option Request → Type 0
    IsSiteFor o = (r : Request) → o ≡ Some r → IsSiteBlock p i (array_of r.count r.shape)

    abbrev array_begun : Request → Block
    array_begun r = unwritten s.memory.structs (array_of r.count r.shape) Allocated

    pub request_later : (typed : IsTypedState p points s) (o : Option Request) → IsLater s (begun_state o)
    request_later typed None = recast_later s s.frame s.returned s.unread
    request_later typed (Some r) = begun_later p points s typed s.frame (OfStatement i) (array_begun r)

    request_typed : (o : Option Request) → IsSiteFor o → IsTypedState p points s → IsTypedState p points (begun_state o)
    request_typed None sites typed = typed
    request_typed (Some r) sites typed =
        typed_begun p points s typed s.frame (OfStatement i) (array_begun r) (sites r refl)
        (λ path v t e k. unwritten_holds s.memory.structs (array_of r.count r.shape) Allocated path v e)
        (named_grown s.frame s.origins (origins_after i (Some r) s.origins) (grows_after i (Some r) s.origins) typed.named)

    -- what an act made fits: its block is a site's, its stores are of their types in the state in which that has begun, and what it
    -- returns may be returned
    pub record IsFitMade (MayReturn : Value → Type 0) (x : Made) : Type 0 where
      pub sites : IsSiteFor x.begun
      pub stores : AreFit (begun_state x.begun) x.stores
      pub returns : (v : Value) → x.returned ≡ Some v → MayReturn v

  module _ (order : AreStructsInOrder p) where
    -- a write of such a value keeps a state typed
    pub written_typed : (s : State) (w : Store) → IsTypedState p points s → IsFitStore s w → IsTypedState p points (written_state s w)
    written_typed s w typed fit =
        write_typed p order points s w.place w.value typed
        (record { type = fit.type; type_is = fit.type_is; origin = fit.origin; origin_is = fit.origin_is; value_is = fit.value_is })

    pub stored_typed : (ws : List Store) (s : State) → IsTypedState p points s → AreFit s ws → IsTypedState p points (stored_state s ws)
    stored_typed [] s typed h = typed
    stored_typed (w ∷ ws) s typed h =
        stored_typed ws (written_state s w) (written_typed s w typed h.0) (all_fit_later s (written_state s w) (written_later s w) ws h.1)

    module _ (MayReturn : Value → Type 0) (i : ℕ) (s : State) (x : Made) (fit : IsFitMade i s MayReturn x) (typed : IsTypedState p points s) where
      abbrev begun : State
      begun = begun_state i s x.begun

      abbrev freed : State
      freed = left_state x.freed begun

      freed_typed : IsTypedState p points freed
      freed_typed = left_typed x.freed begun p points (request_typed i s x.begun fit.sites typed)

      all_stored : IsTypedState p points (stored_state freed x.stores)
      all_stored = stored_typed x.stores freed freed_typed (all_fit_later begun freed (left_later x.freed begun) x.stores fit.stores)

      pub act_later : IsLater s (after i x s)
      act_later =
          later_on s begun (after i x s) (request_later i s typed x.begun)
          (later_on begun freed (after i x s) (left_later x.freed begun)
          (later_on freed (stored_state freed x.stores) (after i x s) (stored_later x.stores freed)
          (recast_later (stored_state freed x.stores) s.frame (option_or x.returned s.returned) (after i x s).unread)))

      pub act_typed : IsTypedState p points (after i x s)
      act_typed = recast_typed (stored_state freed x.stores) s.frame (option_or x.returned s.returned) (after i x s).unread p points all_stored all_stored.named
