-- The states of a run while its globals begin, as memory and a table of blocks have them.
use Rattle.std.specs.Prelude.{◌≡◌, ℕ, List, [], ◌∷◌, Option, Some, None, if◌then◌else◌, option_and_then}
use Rattle.std.specs.Global.{Vec}
use Rattle.c_tree.specs.declared.expr.Expr.{Expr}
use Rattle.c_tree.specs.declared.program.Init.{Init}
use Rattle.c_tree.specs.declared.program.Program.{Program}
use Rattle.c_language.specs.declared.expr_type.Base.{Base}
use Rattle.c_language.specs.declared.expr_type.Layer.{Layer}
use Rattle.c_language.specs.declared.expr_type.Layer.TheVariants.{Pointer, Array}
use Rattle.c_language.specs.declared.expr_type.ExprType.{ExprType}
use Rattle.c_meaning.specs.declared.value.Value.{Value}
use Rattle.c_meaning.specs.Acts.{Store, Made, store, assigned, writable, listed, list_stores, storing_all, all_as}
use Rattle.c_meaning.specs.Activations.{executable, global_begun, stores_of}
use Rattle.c_meaning.specs.Memory.{Memory, is_cell}
use Rattle.c_meaning.specs.Values.{State, whole, eval, eval_all}
use Rattle.c_memory.specs.Scenes.{types_of, frame_of}

-- a state has this memory, and its variables have the blocks of the table
pub record IsAt (m : Memory) (table : Vec (Option ℕ)) (s : State) : Type 0 where
  pub memory : m ≡ s.memory
  pub frame : frame_of table.items ≡ s.frame

-- the state once a global has begun
abbrev pub begun : Program → ℕ → Init → State → State
begun p x i s = global_begun (executable p) (record { variable = x; init = i }) s

-- a value is stored where there is one, and the block is one cell
abbrev pub whole_stores : Memory → (block : ℕ) → Option Value → List Store
whole_stores m block None = []
whole_stores m block (Some v) = if is_cell m (whole block) then store (whole block) v ∷ [] else []

-- what an initialiser stores in a block of a type
abbrev pub value_stores : Program → ExprType → (block : ℕ) → Expr → State → List Store
value_stores p t block e s = stores_of (assigned t (writable s (Some (whole block))) (eval (types_of p) e s))

abbrev pub list_stores_of : Program → ExprType → (block : ℕ) → List Expr → State → List Store
list_stores_of p t block es s = stores_of (listed t s (Some (whole block)) (eval_all (types_of p) es s))

-- what a list makes of an array of so many elements
abbrev pub elements_made : Memory → (count : ℕ) → ExprType → (block : ℕ) → List Value → Option Made
elements_made m n t block vs = storing_all m n vs (list_stores (whole block) t 0 n vs)

abbrev pub element_stores : Program → (count : ℕ) → ExprType → (block : ℕ) → List Expr → State → List Store
element_stores p n t block es s =
    stores_of (option_and_then (elements_made s.memory n t block) (option_and_then (all_as t) (eval_all (types_of p) es s)))

-- the length of an array, and the type of its elements
abbrev pub array_in : List Layer → Base → Option (ℕ × ExprType)
array_in [] b = None
array_in (Pointer ∷ ls) b = None
array_in (Array n ∷ ls) b = Some (n, record { layers = ls; base = b })
