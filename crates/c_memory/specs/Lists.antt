-- Lists with which arrays begin, by the elements in which their items are stored.
use Rattle.std.specs.Prelude.{ℕ, zero, suc, nat_le, List, [], ◌∷◌, length, Bool, true, ◌&&◌}
use Rattle.std.specs.Global.{Vec}
use Rattle.c_language.specs.declared.expr_type.ExprType.{ExprType}
use Rattle.c_meaning.specs.declared.value.Hop.TheVariants as hop
use Rattle.c_meaning.specs.declared.value.Place.{Place}
use Rattle.c_meaning.specs.declared.value.Value.{Value}
use Rattle.c_meaning.specs.Acts.{Store, store, list_stores, all_cells}
use Rattle.c_meaning.specs.Memory.{Memory, is_cell}
use Rattle.c_meaning.specs.Pointers.{inside}
use Rattle.c_meaning.specs.Values.{whole}

abbrev pub items_of : Vec Value → List Value
items_of vs = vs.items

-- an element of the array that a block is
abbrev pub element_of : (block i : ℕ) → Place
element_of block i = inside (hop.Element i) (whole block)

-- so many elements, from one on, are cells of a live block
abbrev pub are_cells : Memory → (block i left : ℕ) → Bool
are_cells m block i zero = true
are_cells m block i (suc n) = is_cell m (element_of block i) && are_cells m block (suc i) n

-- a list isn't longer than the array, whose elements are cells
abbrev pub can_store : Memory → (block : ℕ) → ExprType → (count : ℕ) → List Value → Bool
can_store m block t count vs = nat_le (length vs) count && all_cells m (list_stores (whole block) t 0 count vs)

-- values that are stored one after another, from an element on
abbrev pub item_stores : (block i : ℕ) → List Value → List Store
item_stores block i [] = []
item_stores block i (v ∷ vs) = store (element_of block i) v ∷ item_stores block (suc i) vs
