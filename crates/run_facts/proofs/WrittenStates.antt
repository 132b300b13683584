-- A state in which a value is written is typed, where the value is of its cell's type and leads to where the cell's location may point.
use Rattle.std.proofs.Common.{◌≡◌, ℕ, zero, suc, List, [], ◌∷◌, Option, Some, None, true, inl, inr, refl, sym, ap, ◌∙◌, subst}
use Rattle.std.specs.Prelude.{option_map, option_and_then, is_some, slice_get}
use Rattle.c_language.proofs.Options.{some_same, map_there, then_there}
use Rattle.c_tree.specs.declared.program.Program.{Program}
use Rattle.c_language.specs.declared.expr_type.ExprType.{ExprType}
use Rattle.c_meaning.specs.declared.value.Place.{Place}
use Rattle.c_meaning.specs.declared.value.Value.{Value}
use Rattle.c_meaning.specs.Memory.{Block, Memory, held, cell, is_cell, read, changed, with_cell, write}
use Rattle.c_meaning.specs.Pointers.{type_at}
use Rattle.c_meaning.specs.Values.{Origin, State}
use Rattle.c_meaning.proofs.Origins.{length-changed}
use Rattle.dep_model.specs.LocationLists.{AreStructsInOrder}
use Rattle.dep_model.specs.Denoted.{TargetsOf}
use Rattle.run_facts.specs.CellLocations.{location_in}
use Rattle.run_facts.specs.TypedStates.{IsBlockOf, IsValue, IsTypedState}
use Rattle.run_facts.proofs.CellPlaces.{same_cell, same_back, one_place}
use Rattle.run_facts.proofs.KeptMemories.{write_keeps, write_live}
use Rattle.run_facts.proofs.LaterStates.{IsLater, shapes_written, value_later}
use Rattle.run_facts.proofs.Subobjects.{path_type, type_at_is}
use Rattle.run_facts.proofs.WrittenCells.{written}

-- ---- types of blocks

abbrev shape_at : List Block → ℕ → Option ExprType
shape_at bs n = option_map (λ (b : Block). b.shape) (slice_get bs n)

shapes_are : (f : Block → Block) → ((b : Block) → (f b).shape ≡ b.shape) → (i n : ℕ) (bs : List Block) → shape_at (changed f i bs) n ≡ shape_at bs n
shapes_are f same i n [] = refl
shapes_are f same zero zero (b ∷ bs) = ap Some (same b)
shapes_are f same zero (suc n) (b ∷ bs) = refl
shapes_are f same (suc i) zero (b ∷ bs) = refl
shapes_are f same (suc i) (suc n) (b ∷ bs) = shapes_are f same i n bs

by_shape : {A : Type 0} (f : ExprType → Option A) (o : Option Block) → option_and_then (λ (b : Block). f b.shape) o ≡ option_and_then f (option_map (λ (b : Block). b.shape) o)
by_shape f None = refl
by_shape f (Some b) = refl

type_written : (m : Memory) (r q : Place) (v : Value) → type_at (write r v m) q ≡ type_at m q
type_written m r q v =
    let f = path_type m.structs q.path in
    type_at_is (write r v m) q
    ∙ (by_shape f (slice_get (write r v m).blocks q.block)
    ∙ (ap (option_and_then f) (shapes_are (with_cell m.structs r.path v) (λ b. refl) r.block q.block m.blocks)
    ∙ (sym (by_shape f (slice_get m.blocks q.block)) ∙ sym (type_at_is m q))))

-- ---- a write

module _ (p : Program) (order : AreStructsInOrder p) (points : TargetsOf) (s : State) (r : Place) (w : Value) where
  abbrev pub write_state : State
  write_state = record s { memory = write r w s.memory }

  pub write_later : IsLater s write_state
  write_later = record { structs_are = refl; shapes = shapes_written r w s.memory; origins = λ n o e. e }

  -- what is written is of the type of what is at the place, and leads to where its location may point
  pub record IsFit : Type 0 where
    pub type : ExprType
    pub type_is : type_at s.memory r ≡ Some type
    pub origin : Origin
    pub origin_is : slice_get s.origins r.block ≡ Some origin
    pub value_is : IsValue p s type (points (location_in origin r.path)) w

  module _ (typed : IsTypedState p points s) (fit : IsFit) where
    blocks_written : (n : ℕ) (o : Origin) (b : Block) → slice_get s.origins n ≡ Some o → slice_get (write r w s.memory).blocks n ≡ Some b → IsBlockOf p o b.shape
    blocks_written n o b made there =
        let shape : shape_at s.memory.blocks n ≡ Some b.shape = sym (shapes_are (with_cell s.memory.structs r.path w) (λ c. refl) r.block n s.memory.blocks) ∙ ap (option_map (λ (c : Block). c.shape)) there in
        let c = map_there (λ (c : Block). c.shape) (slice_get s.memory.blocks n) b.shape shape in
        subst (IsBlockOf p o) c.same (typed.blocks n o c.value made c.there)

    -- the cell that is written
    value_there : (q : Place) (v : Value) (t : ExprType) (o : Origin) → r ≡ q → is_cell s.memory q ≡ true → read (write r w s.memory) q ≡ Some v → type_at s.memory q ≡ Some t → slice_get s.origins q.block ≡ Some o → IsValue p write_state t (points (location_in o q.path)) v
    value_there q v t o is live there type made =
        let here : read (write r w s.memory) q ≡ Some w = subst (λ (z : Place). read (write r w s.memory) z ≡ Some w) is (ap (option_and_then held) (written s.memory r w (subst (λ (z : Place). is_cell s.memory z ≡ true) (sym is) live))) in
        let value : w ≡ v = some_same (sym here ∙ there) in
        let types : fit.type ≡ t = some_same (sym fit.type_is ∙ (ap (type_at s.memory) is ∙ type)) in
        let origins : fit.origin ≡ o = some_same (sym fit.origin_is ∙ (ap (λ (z : Place). slice_get s.origins z.block) is ∙ made)) in
        let old : IsValue p s t (points (location_in o q.path)) v = subst (λ (z : Value). IsValue p s t (points (location_in o q.path)) z) value (subst (λ (z : Place). IsValue p s t (points (location_in o z.path)) w) is (subst (λ (k : Origin). IsValue p s t (points (location_in k r.path)) w) origins (subst (λ (u : ExprType). IsValue p s u (points (location_in fit.origin r.path)) w) types fit.value_is))) in
        value_later s write_state write_later p t (points (location_in o q.path)) v old

    cells_written : (q : Place) (v : Value) (t : ExprType) (o : Origin) → read (write r w s.memory) q ≡ Some v → type_at (write r w s.memory) q ≡ Some t → slice_get s.origins q.block ≡ Some o → IsValue p write_state t (points (location_in o q.path)) v
    cells_written q v t o there typed_so made =
        let type : type_at s.memory q ≡ Some t = sym (type_written s.memory r q w) ∙ typed_so in
        let c = then_there held (cell (write r w s.memory) q) v there in
        elim (same_cell s.memory q r) [
          | inl same ↦
              let live : is_cell s.memory q ≡ true = write_live s.memory r q w (ap is_some c.there) in
              value_there q v t o (sym (one_place p order s.memory q r typed.structs_are live same)) live there type made
          | inr other ↦
              let kept = write_keeps s.memory r q w (λ same. other (same_back s.memory r q same)) in
              value_later s write_state write_later p t (points (location_in o q.path)) v (typed.cells q v t o (ap (option_and_then held) (sym kept) ∙ there) type made)
        ]

    -- the state after a write is typed
    pub write_typed : IsTypedState p points write_state
    write_typed = record {
      structs_are = typed.structs_are;
      tracked = typed.tracked ∙ sym (length-changed (with_cell s.memory.structs r.path w) r.block s.memory.blocks);
      named = typed.named;
      blocks = blocks_written;
      cells = cells_written;
    }
