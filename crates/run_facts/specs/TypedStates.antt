-- What a state of a run holds: types of blocks and values, and where pointers lead.
use Rattle.std.specs.Prelude.{◌≡◌, ◌<◌, ℕ, length, Bool, true, ◌||◌, Option, Some, Contains, slice_get}
use Rattle.c_tree.specs.declared.program.Program.{Program}
use Rattle.c_language.specs.declared.expr_type.ExprType.{ExprType}
use Rattle.c_language.specs.ExprTypes.{target_of, is_integer, is_pointer}
use Rattle.c_language.specs.TreeTypes.{type_of_variable}
use Rattle.c_meaning.specs.declared.value.Place.{Place}
use Rattle.c_meaning.specs.declared.value.Pointer.{Pointer}
use Rattle.c_meaning.specs.declared.value.Value.{Value}
use Rattle.c_meaning.specs.declared.value.Value.TheVariants.{Number, Null, To}
use Rattle.c_meaning.specs.Cells.{structs_of}
use Rattle.c_meaning.specs.Memory.{Block, read, array_of}
use Rattle.c_meaning.specs.Pointers.{type_at, whole_of}
use Rattle.c_meaning.specs.Values.{Origin, OfVariable, OfStatement, State}
use Rattle.dep_model.specs.Denoted.{Places, TargetsOf}
use Rattle.dep_model.specs.DoingEffects.{is_taken, is_global, result_of}
use Rattle.dep_model.specs.Locations.{Heap, function_heaps}
use Rattle.run_facts.specs.CellLocations.{location_in}
use Rattle.run_facts.specs.PointerLocations.{item_type, item_of}

module _ (p : Program) where
  -- whether other activations may see a block that this made: that of a global, of a variable whose address is taken, or of malloc
  abbrev pub is_seen : Origin → Bool
  is_seen (OfVariable x) = is_global p x || is_taken p x
  is_seen (OfStatement i) = true

  -- the block of a variable has the variable's type
  pub record IsVariableBlock (x : ℕ) (shape : ExprType) : Type 0 where
    pub below : x < length p.vars
    pub shape_is : shape ≡ type_of_variable p x

  -- the block that a statement's malloc made is an array of what the statement's target points to
  pub record IsSiteBlock (i : ℕ) (shape : ExprType) : Type 0 where
    pub count : ℕ
    pub heap : Heap
    pub member : Contains (function_heaps p p.functions) heap
    pub id_is : heap.id ≡ i
    pub shape_is : shape ≡ array_of count heap.elements

  abbrev pub IsBlockOf : Origin → ExprType → Type 0
  IsBlockOf (OfVariable x) t = IsVariableBlock x t
  IsBlockOf (OfStatement i) t = IsSiteBlock i t

  -- a pointer of a type is in an array of what the type points to, or in a single object of that type, which is then no array; the block
  -- may be gone. Its location is one of these, and other activations may see its block
  pub record Leads (s : State) (t : ExprType) (targets : Places) (q : Pointer) : Type 0 where
    pub whole : ExprType
    pub whole_is : type_at s.memory (whole_of q) ≡ Some whole
    pub target_is : target_of t ≡ Some (item_type whole)
    pub origin : Origin
    pub origin_is : slice_get s.origins q.block ≡ Some origin
    pub among : targets (location_in origin (item_of q whole).path) ≡ true
    pub seen : is_seen origin ≡ true

  -- a value of a type, which leads to these locations where it is a pointer that isn't null
  abbrev pub IsValue : State → ExprType → Places → Value → Type 0
  IsValue s t targets (Number z) = is_integer t ≡ true
  IsValue s t targets Null = is_pointer t ≡ true
  IsValue s t targets (To q) = Leads s t targets q

  module _ (points : TargetsOf) where
    -- each block has the type of what made it, a variable that is named has a block that it made, and what a cell holds is of the cell's
    -- type and leads to where the cell's location may point
    pub record IsTypedState (s : State) : Type 0 where
      pub structs_are : s.memory.structs ≡ structs_of p
      pub tracked : length s.origins ≡ length s.memory.blocks
      pub named : (x b : ℕ) → s.frame x ≡ Some b → slice_get s.origins b ≡ Some (OfVariable x)
      pub blocks : (n : ℕ) (o : Origin) (b : Block) → slice_get s.origins n ≡ Some o → slice_get s.memory.blocks n ≡ Some b → IsBlockOf o b.shape
      pub cells :
          (q : Place) (v : Value) (t : ExprType) (o : Origin) → read s.memory q ≡ Some v → type_at s.memory q ≡ Some t
          → slice_get s.origins q.block ≡ Some o → IsValue s t (points (location_in o q.path)) v

    -- what a function whose result has this type has returned
    abbrev pub IsResult : State → ℕ → Option ExprType → Option Value → Type 0
    IsResult s f result o = (v : Value) → o ≡ Some v → (t : ExprType) × ((result ≡ Some t) × IsValue s t (points (result_of f)) v)
