-- What is done with pointers: the objects that they point to, their moves and comparisons (ISO C99 6.5.3.2, 6.5.6, 6.5.8, 6.5.9).
use Rattle.std.specs.Prelude.{ℕ, ◌==◌, nat_le, nat_lt, ℤ, pos, negsuc, ◌+ℤ◌, neg_ℤ, List, [], ◌∷◌, ◌++◌, Bool, true, false, not, ◌&&◌, ◌||◌, if◌then◌else◌, Option, Some, None, option_map, option_and_then, slice_get}
use Rattle.std.specs.Option.{option_map_or}
use Rattle.c_arith.specs.declared.int_type.IntType.TheVariants.{Long}
use Rattle.c_arith.specs.declared.operators.BinaryOp.{BinaryOp}
use Rattle.c_arith.specs.declared.operators.BinaryOp.TheVariants.{Add, Sub, Less, Greater, AtMost, AtLeast, Equal, Unequal}
use Rattle.c_arith.specs.Operators.{truth, binary}
use Rattle.c_language.specs.Lists.{same_all}
use Rattle.c_language.specs.declared.expr_type.Layer.{Layer}
use Rattle.c_language.specs.declared.expr_type.Layer.TheVariants as layer
use Rattle.c_language.specs.declared.expr_type.ExprType.{ExprType}
use Rattle.c_language.specs.ExprTypes.{same_type}
use Rattle.c_meaning.specs.declared.value.Hop.{Hop}
use Rattle.c_meaning.specs.declared.value.Hop.TheVariants as hop
use Rattle.c_meaning.specs.declared.value.Place.{Place}
use Rattle.c_meaning.specs.declared.value.Pointer.{Pointer}
use Rattle.c_meaning.specs.declared.value.Value.{Value}
use Rattle.c_meaning.specs.declared.value.Value.TheVariants.{Number, Null, To}
use Rattle.c_meaning.specs.Cells.{Subobject, subobject}
use Rattle.c_meaning.specs.Memory.{Block, Memory}

-- ---- objects

-- the type of the object at a place, of a block that is gone too
abbrev pub type_at : Memory → Place → Option ExprType
type_at m p =
    option_and_then (λ (b : Block). option_map (λ (o : Subobject). o.type) (subobject m.structs p.path b.shape))
    (slice_get m.blocks p.block)

-- effective types (6.5, paragraph 7): the object at a place has this type; an expression of another type designates nothing there
abbrev pub has_type : Memory → ExprType → Place → Bool
has_type m t p = option_map_or (same_type t) (type_at m p) false

-- a part of the object at a place
abbrev pub inside : Hop → Place → Place
inside h p = record { block = p.block; path = p.path ++ h ∷ [] }

-- the array or the single object in which a pointer is
abbrev pub whole_of : Pointer → Place
whole_of p = record { block = p.block; path = p.path }

-- the pointer to an object that is no element, or to the first element of an array
abbrev pub start : Place → Value
start p = To (record { block = p.block; path = p.path; index = 0 })

abbrev pub length_in : List Layer → ℕ
length_in [] = 1
length_in (layer.Pointer ∷ ls) = 1
length_in (layer.Array n ∷ ls) = n

-- the length of what a pointer is in; a single object has length 1
abbrev pub length_at : Memory → Pointer → Option ℕ
length_at m p = option_map (λ (t : ExprType). length_in t.layers) (type_at m (whole_of p))

abbrev pub item_in : List Layer → ℕ → Place → Place
item_in [] i p = p
item_in (layer.Pointer ∷ ls) i p = p
item_in (layer.Array n ∷ ls) i p = inside (hop.Element i) p

-- the object at the index, in an array or a single object of this type; behind the last there is none
abbrev pub item_at : Pointer → ExprType → Option Place
item_at p t = if nat_lt p.index (length_in t.layers) then Some (item_in t.layers p.index (whole_of p)) else None

-- the object to which a pointer points
abbrev pub pointed : Memory → Pointer → Option Place
pointed m p = option_and_then (item_at p) (type_at m (whole_of p))

abbrev pub if_typed : Memory → ExprType → Place → Option Place
if_typed m t p = if has_type m t p then Some p else None

-- the object of a type that a value designates; a null pointer designates none
abbrev pub designated : Memory → ExprType → Value → Option Place
designated m t (Number z) = None
designated m t Null = None
designated m t (To p) = option_and_then (if_typed m t) (pointed m p)

-- ---- moves

abbrev pub at_index : Pointer → ℕ → ℤ → Option Value
at_index p n (pos i) = if nat_le i n then Some (To (record { block = p.block; path = p.path; index = i })) else None
at_index p n (negsuc i) = None

-- a pointer moved by so many objects; it stays from 0 to the length, and a null pointer isn't moved
abbrev pub moved : Memory → ℤ → Value → Option Value
moved m z (Number x) = None
moved m z Null = None
moved m z (To p) = option_and_then (λ (n : ℕ). at_index p n (pos p.index +ℤ z)) (length_at m p)

abbrev pub moved_by : Memory → Value → Value → Option Value
moved_by m p (Number z) = moved m z p
moved_by m p Null = None
moved_by m p (To q) = None

abbrev pub moved_back : Memory → Value → Value → Option Value
moved_back m p (Number z) = moved m (neg_ℤ z) p
moved_back m p Null = None
moved_back m p (To q) = None

-- ---- comparisons

abbrev pub same_hop : Hop → Hop → Bool
same_hop (hop.Member i) (hop.Member j) = i == j
same_hop (hop.Element i) (hop.Element j) = i == j
same_hop _ _ = false

-- both are in one array, or in one single object
abbrev pub are_together : Pointer → Pointer → Bool
are_together p q = (p.block == q.block) && same_all same_hop p.path q.path

-- a difference, and an order, are those of the indices in one array, as longs
abbrev pub at_indices : BinaryOp → Value → Value → Option Value
at_indices op (To p) (To q) =
    if are_together p q then option_map Number (binary op Long (pos p.index) (pos q.index)) else None
at_indices op _ _ = None

-- it points behind the last object
abbrev pub is_end : Memory → Pointer → Bool
is_end m p = option_map_or (λ (n : ℕ). p.index == n) (length_at m p) false

-- one points behind the last object of an array, the other to the first of another: they may be one address (6.5.9, paragraph 6)
abbrev pub may_touch : Memory → Pointer → Pointer → Bool
may_touch m p q = (is_end m p && (q.index == 0)) || (is_end m q && (p.index == 0))

abbrev pub same_pointer : Memory → Pointer → Pointer → Option Bool
same_pointer m p q =
    if are_together p q then Some (p.index == q.index) else (if may_touch m p q then None else Some false)

-- whether two pointers are equal; what is no pointer stands for a null pointer
abbrev pub are_equal : Memory → Value → Value → Option Bool
are_equal m (To p) (To q) = same_pointer m p q
are_equal m (To p) (Number z) = Some false
are_equal m (To p) Null = Some false
are_equal m (Number z) (To q) = Some false
are_equal m Null (To q) = Some false
are_equal m _ _ = Some true

abbrev pub equality : (Bool → Bool) → Option Bool → Option Value
equality f o = option_map (λ (same : Bool). Number (truth (f same))) o

abbrev pub as_it_is : Bool → Bool
as_it_is b = b

-- ---- operators where an operand is a pointer

abbrev pub at_pointers : BinaryOp → Memory → Value → Value → Option Value
at_pointers Sub m a b = at_indices Sub a b
at_pointers Less m a b = at_indices Less a b
at_pointers Greater m a b = at_indices Greater a b
at_pointers AtMost m a b = at_indices AtMost a b
at_pointers AtLeast m a b = at_indices AtLeast a b
at_pointers Equal m a b = equality as_it_is (are_equal m a b)
at_pointers Unequal m a b = equality not (are_equal m a b)
at_pointers _ m a b = None

-- a pointer on the left, and an integer
abbrev pub at_pointer_left : BinaryOp → Memory → Value → Value → Option Value
at_pointer_left Add m a b = moved_by m a b
at_pointer_left Sub m a b = moved_back m a b
at_pointer_left Equal m a b = equality as_it_is (are_equal m a b)
at_pointer_left Unequal m a b = equality not (are_equal m a b)
at_pointer_left _ m a b = None

-- a pointer on the right, and an integer
abbrev pub at_pointer_right : BinaryOp → Memory → Value → Value → Option Value
at_pointer_right Add m a b = moved_by m b a
at_pointer_right Equal m a b = equality as_it_is (are_equal m a b)
at_pointer_right Unequal m a b = equality not (are_equal m a b)
at_pointer_right _ m a b = None
