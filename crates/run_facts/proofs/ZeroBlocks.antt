-- A block of zeros and null pointers, as that of a global begins, holds what is of its cells' types.
use Rattle.std.proofs.Common.{◌≡◌, ℕ, pos, zero, suc, List, [], ◌∷◌, length, map, Option, Some, Bool, true, false, ◌||◌, refl, sym, ap, ◌∙◌, subst}
use Rattle.std.specs.Prelude.{option_map, slice_get, if◌then◌else◌}
use Rattle.c_language.proofs.Options.{some_same, then_there}
use Rattle.c_tree.specs.declared.program.Program.{Program}
use Rattle.c_language.specs.declared.expr_type.ExprType.{ExprType}
use Rattle.c_language.specs.ExprTypes.{is_integer, is_pointer, is_scalar}
use Rattle.c_meaning.specs.declared.value.Hop.{Hop}
use Rattle.c_meaning.specs.declared.value.Value.{Value}
use Rattle.c_meaning.specs.declared.value.Value.TheVariants.{Number, Null}
use Rattle.c_meaning.specs.Cells.{Structs, Subobject, structs_of, cells, cell_number}
use Rattle.c_meaning.specs.Memory.{cell_in}
use Rattle.c_meaning.specs.Values.{OfVariable, State, bound}
use Rattle.c_meaning.specs.Acts.{zero_of}
use Rattle.c_meaning.specs.Activations.{Executable, outside, zeros, global_opened}
use Rattle.dep_model.specs.LocationLists.{AreStructsInOrder}
use Rattle.dep_model.specs.Denoted.{Places, TargetsOf}
use Rattle.run_facts.specs.TypedStates.{IsVariableBlock, IsValue, IsTypedState}
use Rattle.run_facts.proofs.BegunBlocks.{begun_later, typed_begun}
use Rattle.run_facts.proofs.Blocks.{placed_opened}
use Rattle.run_facts.proofs.CellPaths.{cell_at, cell_typed}
use Rattle.run_facts.proofs.CellPlaces.{structs_ordered}
use Rattle.run_facts.proofs.LaterStates.{IsLater}
use Rattle.run_facts.proofs.Subobjects.{path_type, path_typed}

get_mapped : {A B : Type 0} (f : A → B) (xs : List A) (n : ℕ) → slice_get (map f xs) n ≡ option_map f (slice_get xs n)
get_mapped f [] n = refl
get_mapped f (x ∷ xs) zero = refl
get_mapped f (x ∷ xs) (suc n) = get_mapped f xs n

module _ (p : Program) (s : State) where
  zero_typed : (t : ExprType) (targets : Places) (b : Bool) → is_integer t ≡ b → (b || is_pointer t) ≡ true → IsValue p s t targets (if b then Number (pos 0) else Null)
  zero_typed t targets true is h = is
  zero_typed t targets false is h = h

  -- 0, or a null pointer, is a value of an integer's or a pointer's type
  pub zero_value : (t : ExprType) (targets : Places) → is_scalar t ≡ true → IsValue p s t targets (zero_of t)
  zero_value t targets scalar = zero_typed t targets (is_integer t) refl scalar

  module _ (order : AreStructsInOrder p) (structs : Structs) (structs_are : structs ≡ structs_of p) where
    zero_in : (shape : ExprType) (path : List Hop) (v : Value) (t : ExprType) (targets : Places) → cell_in (structs_of p) path (zeros (structs_of p) shape) ≡ Some (Some v) → path_type (structs_of p) path shape ≡ Some t → IsValue p s t targets v
    zero_in shape path v t targets e type =
        let f : ExprType → Option Value = λ u. Some (zero_of u) in
        let n = then_there (slice_get (map f (cells (structs_of p) shape))) (cell_number (structs_of p) path shape) (Some v) e in
        let c = cell_at (structs_of p) path shape n.value n.there in
        let of = cell_typed (structs_of p) (structs_ordered p order) path shape n.value c in
        let same : c.object.type ≡ t = some_same (ap (option_map (λ (o : Subobject). o.type)) (sym c.object_is) ∙ (path_typed (structs_of p) path shape ∙ type)) in
        let value : zero_of c.object.type ≡ v = some_same (some_same (sym (get_mapped f (cells (structs_of p) shape) n.value ∙ ap (option_map f) of) ∙ n.same)) in
        subst (IsValue p s t targets) value (subst (λ (u : ExprType). IsValue p s t targets (zero_of u)) (sym same) (zero_value t targets (subst (λ (u : ExprType). is_scalar u ≡ true) same c.scalar)))

    -- what is held in a block of zeros
    pub zero_held : (shape : ExprType) (path : List Hop) (v : Value) (t : ExprType) (targets : Places) → cell_in structs path (zeros structs shape) ≡ Some (Some v) → path_type structs path shape ≡ Some t → IsValue p s t targets v
    zero_held shape path v t targets e type =
        zero_in shape path v t targets (subst (λ ss. cell_in ss path (zeros ss shape) ≡ Some (Some v)) structs_are e) (subst (λ ss. path_type ss path shape ≡ Some t) structs_are type)

module _ (p : Program) (order : AreStructsInOrder p) (points : TargetsOf) (q : Executable) (x : ℕ) (s : State) (typed : IsTypedState p points s) where
  abbrev begun : State
  begun = global_opened q x s

  pub global_later : IsLater s begun
  global_later = begun_later p points s typed (bound s.frame x (Some (length s.memory.blocks))) (OfVariable x) (zeros s.memory.structs (q.typing.variable x))

  -- a global begins
  pub global_typed : IsVariableBlock p x (q.typing.variable x) → IsTypedState p points begun
  global_typed block =
      typed_begun p points s typed (bound s.frame x (Some (length s.memory.blocks))) (OfVariable x) (zeros s.memory.structs (q.typing.variable x)) block
      (λ path v t e k. zero_held p begun order s.memory.structs typed.structs_are (q.typing.variable x) path v t _ e k)
      (placed_opened (outside q) x s (record { tracked = typed.tracked; named = typed.named })).named
