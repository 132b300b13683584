-- What an expression gives in a state is what is said of it: its object, its value and its address, and the cells that are read.
use Rattle.std.specs.Prelude.{◌≡◌, ◌⊎◌, ℕ, Bool, true, false, ◌||◌, Option, Some, None, option_map, option_and_then, All, slice_get}
use Rattle.c_tree.specs.declared.program.Program.{Program}
use Rattle.c_language.specs.DeclaredTypes.{pointer_to}
use Rattle.c_language.specs.ExprTypes.{is_array, value_type}
use Rattle.c_meaning.specs.declared.value.Place.{Place}
use Rattle.c_meaning.specs.declared.value.Pointer.{Pointer}
use Rattle.c_meaning.specs.declared.value.Value.{Value}
use Rattle.c_meaning.specs.declared.value.Value.TheVariants.{To}
use Rattle.c_meaning.specs.Memory.{read}
use Rattle.c_meaning.specs.Pointers.{type_at, start}
use Rattle.c_meaning.specs.Values.{Origin, State}
use Rattle.dep_model.specs.Denoted.{Places, TargetsOf, Denoted, value_reads, value_points}
use Rattle.dep_model.specs.Designated.{is_root, is_array_place, value_takes}
use Rattle.dep_model.specs.DoingEffects.{is_taken}
use Rattle.run_facts.specs.CellLocations.{location_in}
use Rattle.run_facts.specs.PointerLocations.{is_object}
use Rattle.run_facts.specs.ReadCells.{Watched}
use Rattle.run_facts.specs.TypedStates.{is_seen, IsValue}

module _ (p : Program) (s : State) where
  -- a block is that of the variable by which an expression finds it, or else is seen where pointers lead
  abbrev pub LiesBy : Option ℕ → ℕ → Origin → Type 0
  LiesBy (Some x) b o = s.frame x ≡ Some b
  LiesBy None b o = is_seen p o ≡ true

  -- an object that an expression designates has the expression's type, and its location is one of those that the expression may name
  pub record IsObject (d : Denoted) (q : Place) : Type 0 where
    pub is_place : d.form.is_place ≡ true
    pub type_is : type_at s.memory q ≡ Some d.form.type
    pub origin : Origin
    pub origin_is : slice_get s.origins q.block ≡ Some origin
    pub object_is : is_object origin q.path ≡ true
    pub among : d.places (location_in origin q.path) ≡ true
    pub lies : LiesBy d.form.root q.block origin

  -- a cell has a location that is one of these, and its block is seen outside of the activation, or is named by it
  pub record IsReadOf (reads : Places) (q : Place) : Type 0 where
    pub origin : Origin
    pub origin_is : slice_get s.origins q.block ≡ Some origin
    pub among : reads (location_in origin q.path) ≡ true
    pub counts : (is_seen p origin ≡ true) ⊎ ((x : ℕ) × (s.frame x ≡ Some q.block))

  abbrev pub AreTaken : (ℕ → Bool) → Type 0
  AreTaken takes = (x : ℕ) → takes x ≡ true → is_taken p x ≡ true

  -- an expression, where the addresses that it takes are taken in the program
  pub record IsDenoted (points : TargetsOf) (is_null : Bool) (d : Denoted) (w : Watched) : Type 0 where
    pub type_is : w.meant.type ≡ d.form.type
    -- what stands for a null pointer gives no other
    pub null : is_null ≡ true → (q : Pointer) → w.meant.value s ≡ Some (To q) → ⊥
    pub object : AreTaken d.form.takes → (q : Place) → w.meant.place s ≡ Some q → IsObject d q
    -- an array turns into a pointer to its first element, and isn't read
    pub starts : is_array_place d.form ≡ true → w.meant.value s ≡ option_map start (w.meant.place s)
    pub array_read : is_array_place d.form ≡ true → w.read s ≡ w.found s
    -- an object that is no array gives what its cell holds
    pub cell_is : d.form.is_place ≡ true → is_array d.form.type ≡ false → w.meant.value s ≡ option_and_then (read s.memory) (w.meant.place s)
    pub value : AreTaken (value_takes d.form) → (v : Value) → w.meant.value s ≡ Some v → IsValue p s (value_type d.form.type) (value_points p points d) v
    pub address :
        AreTaken (λ (x : ℕ). d.form.takes x || is_root d.form.root x) → is_array d.form.type ≡ false → (v : Value) → w.meant.address s ≡ Some v
        → IsValue p s (pointer_to d.form.type) d.places v
    pub addressed : (q : Place) → w.meant.place s ≡ Some q → (v : Value) × (w.meant.address s ≡ Some v)
    -- what is read to find the object, and for the value
    pub found : AreTaken d.form.takes → (v : Value) → w.meant.address s ≡ Some v → All (IsReadOf d.reads) (w.found s)
    pub read : AreTaken (value_takes d.form) → (v : Value) → w.meant.value s ≡ Some v → All (IsReadOf (value_reads p points d)) (w.read s)
