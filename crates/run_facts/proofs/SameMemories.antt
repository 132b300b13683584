-- What is asked of a memory besides what cells hold is the same in memories with the same outlines.
use Rattle.std.proofs.Common.{◌≡◌, ℕ, zero, suc, ◌==◌, ℤ, List, [], ◌∷◌, length, map, Option, Some, None, Bool, true, false, not, ◌&&◌, ◌||◌, refl, sym, ap, ap₂, ◌∙◌}
use Rattle.std.specs.Prelude.{◌+ℤ◌, pos, neg_ℤ, option_map, option_and_then, is_some, slice_get, if◌then◌else◌}
use Rattle.std.specs.Option.{option_map_or}
use Rattle.std.proofs.lemmas.Option.{slice_get-map}
use Rattle.c_arith.specs.declared.operators.BinaryOp.{BinaryOp}
use Rattle.c_arith.specs.declared.operators.BinaryOp.TheVariants.{Mul, Div, Rem, Add, Sub, Shl, Shr, Less, Greater, AtMost, AtLeast, Equal, Unequal, And, Xor, Or}
use Rattle.c_language.specs.declared.expr_type.ExprType.{ExprType}
use Rattle.c_language.specs.ExprTypes.{same_type}
use Rattle.c_meaning.specs.declared.value.Place.{Place}
use Rattle.c_meaning.specs.declared.value.Pointer.{Pointer}
use Rattle.c_meaning.specs.declared.value.Value.{Value}
use Rattle.c_meaning.specs.declared.value.Value.TheVariants.{Number, Null, To}
use Rattle.c_meaning.specs.Cells.{Structs, Subobject, subobject, cell_number}
use Rattle.c_meaning.specs.Memory.{Block, Memory, cell_in, is_cell, is_allocated, is_whole, can_free}
use Rattle.c_meaning.specs.Pointers.{type_at, whole_of, length_in, length_at, item_at, pointed, if_typed, designated, at_index, moved, moved_by, moved_back, are_together, is_end, may_touch, same_pointer, are_equal, equality, as_it_is, at_pointers, at_pointer_left, at_pointer_right}
use Rattle.c_meaning.specs.Acts.{Store, all_cells, if_cell}
use Rattle.run_facts.specs.SameOutcomes.{Outline, outline}

-- ---- by outlines

abbrev type_in : Structs → Place → Option Outline → Option ExprType
type_in structs q o = option_and_then (λ (b : Outline). option_map (λ (u : Subobject). u.type) (subobject structs q.path b.shape)) o

type_mapped : (structs : Structs) (q : Place) (o : Option Block) → option_and_then (λ (b : Block). option_map (λ (u : Subobject). u.type) (subobject structs q.path b.shape)) o ≡ type_in structs q (option_map outline o)
type_mapped structs q None = refl
type_mapped structs q (Some b) = refl

type_by_outline : (m : Memory) (q : Place) → type_at m q ≡ type_in m.structs q (slice_get (map outline m.blocks) q.block)
type_by_outline m q =
    type_mapped m.structs q (slice_get m.blocks q.block) ∙ ap (type_in m.structs q) (sym (slice_get-map outline m.blocks q.block))

abbrev is_below : ℕ → ℕ → Bool
is_below n zero = false
is_below zero (suc k) = true
is_below (suc n) (suc k) = is_below n k

is_there : {A : Type 0} (xs : List A) (n : ℕ) → is_some (slice_get xs n) ≡ is_below n (length xs)
is_there [] n = refl
is_there (x ∷ xs) zero = refl
is_there (x ∷ xs) (suc n) = is_there xs n

abbrev cell_within : ℕ → Option ℕ → Bool
cell_within count o = option_map_or (λ (n : ℕ). is_below n count) o false

abbrev cell_of_outline : Structs → Place → Option Outline → Bool
cell_of_outline structs q o = option_map_or (λ (b : Outline). cell_within b.cell_count (cell_number structs q.path b.shape)) o false

within_there : (os : List (Option Value)) (o : Option ℕ) → is_some (option_and_then (slice_get os) o) ≡ cell_within (length os) o
within_there os None = refl
within_there os (Some n) = is_there os n

cell_mapped : (structs : Structs) (q : Place) (o : Option Block) → is_some (option_and_then (cell_in structs q.path) o) ≡ cell_of_outline structs q (option_map outline o)
cell_mapped structs q None = refl
cell_mapped structs q (Some b) = within_there b.cells (cell_number structs q.path b.shape)

cell_by_outline : (m : Memory) (q : Place) → is_cell m q ≡ cell_of_outline m.structs q (slice_get (map outline m.blocks) q.block)
cell_by_outline m q =
    cell_mapped m.structs q (slice_get m.blocks q.block) ∙ ap (cell_of_outline m.structs q) (sym (slice_get-map outline m.blocks q.block))

abbrev free_in : Pointer → Option Outline → Bool
free_in q o = option_map_or (λ (b : Outline). b.is_live && is_allocated b.kind) o false && (is_whole q.path && (q.index == 0))

free_mapped : (q : Pointer) (o : Option Block) → (option_map_or (λ (b : Block). b.is_live && is_allocated b.kind) o false && (is_whole q.path && (q.index == 0))) ≡ free_in q (option_map outline o)
free_mapped q None = refl
free_mapped q (Some b) = refl

free_by_outline : (m : Memory) (q : Pointer) → can_free m q ≡ free_in q (slice_get (map outline m.blocks) q.block)
free_by_outline m q = free_mapped q (slice_get m.blocks q.block) ∙ ap (free_in q) (sym (slice_get-map outline m.blocks q.block))

length-map : {A B : Type 0} (f : A → B) (xs : List A) → length (map f xs) ≡ length xs
length-map f [] = refl
length-map f (x ∷ xs) = ap suc (length-map f xs)

-- ---- two memories

module _ (m n : Memory) (structs : m.structs ≡ n.structs) (blocks : map outline m.blocks ≡ map outline n.blocks) where
  type_same : (q : Place) → type_at m q ≡ type_at n q
  type_same q =
      type_by_outline m q ∙ (ap₂ (λ ss os. type_in ss q (slice_get os q.block)) structs blocks ∙ sym (type_by_outline n q))

  pub cell_same : (q : Place) → is_cell m q ≡ is_cell n q
  cell_same q =
      cell_by_outline m q ∙ (ap₂ (λ ss os. cell_of_outline ss q (slice_get os q.block)) structs blocks ∙ sym (cell_by_outline n q))

  pub free_same : (q : Pointer) → can_free m q ≡ can_free n q
  free_same q = free_by_outline m q ∙ (ap (λ os. free_in q (slice_get os q.block)) blocks ∙ sym (free_by_outline n q))

  pub count_same : length m.blocks ≡ length n.blocks
  count_same = sym (length-map outline m.blocks) ∙ (ap length blocks ∙ length-map outline n.blocks)

  pub if_cell_same : (q : Place) → if_cell m q ≡ if_cell n q
  if_cell_same q = ap (λ b. if b then Some q else None) (cell_same q)

  pub all_cells_same : (ws : List Store) → all_cells m ws ≡ all_cells n ws
  all_cells_same [] = refl
  all_cells_same (w ∷ ws) = ap₂ (λ a b. a && b) (cell_same w.place) (all_cells_same ws)

  -- ---- objects

  pub typed_same : (t : ExprType) (q : Place) → if_typed m t q ≡ if_typed n t q
  typed_same t q = ap (λ o. if option_map_or (same_type t) o false then Some q else None) (type_same q)

  pointed_same : (q : Pointer) → pointed m q ≡ pointed n q
  pointed_same q = ap (option_and_then (item_at q)) (type_same (whole_of q))

  designated_typed : (t : ExprType) (o : Option Place) → option_and_then (if_typed m t) o ≡ option_and_then (if_typed n t) o
  designated_typed t None = refl
  designated_typed t (Some q) = typed_same t q

  pub designated_same : (t : ExprType) (v : Value) → designated m t v ≡ designated n t v
  designated_same t (Number z) = refl
  designated_same t Null = refl
  designated_same t (To q) = designated_typed t (pointed m q) ∙ ap (option_and_then (if_typed n t)) (pointed_same q)

  -- ---- moves

  length_same : (q : Pointer) → length_at m q ≡ length_at n q
  length_same q = ap (option_map (λ (t : ExprType). length_in t.layers)) (type_same (whole_of q))

  moved_same : (z : ℤ) (v : Value) → moved m z v ≡ moved n z v
  moved_same z (Number x) = refl
  moved_same z Null = refl
  moved_same z (To q) = ap (option_and_then (λ (k : ℕ). at_index q k (pos q.index +ℤ z))) (length_same q)

  moved_by_same : (v w : Value) → moved_by m v w ≡ moved_by n v w
  moved_by_same v (Number z) = moved_same z v
  moved_by_same v Null = refl
  moved_by_same v (To q) = refl

  moved_back_same : (v w : Value) → moved_back m v w ≡ moved_back n v w
  moved_back_same v (Number z) = moved_same (neg_ℤ z) v
  moved_back_same v Null = refl
  moved_back_same v (To q) = refl

  -- ---- comparisons

  end_same : (q : Pointer) → is_end m q ≡ is_end n q
  end_same q = ap (λ o. option_map_or (λ (k : ℕ). q.index == k) o false) (length_same q)

  touch_same : (q r : Pointer) → may_touch m q r ≡ may_touch n q r
  touch_same q r = ap₂ (λ a b. (a && (r.index == 0)) || (b && (q.index == 0))) (end_same q) (end_same r)

  pointer_same : (q r : Pointer) → same_pointer m q r ≡ same_pointer n q r
  pointer_same q r =
      ap (λ b. if are_together q r then Some (q.index == r.index) else (if b then None else Some false)) (touch_same q r)

  equal_same : (v w : Value) → are_equal m v w ≡ are_equal n v w
  equal_same (To q) (To r) = pointer_same q r
  equal_same (To q) (Number z) = refl
  equal_same (To q) Null = refl
  equal_same (Number z) (To q) = refl
  equal_same Null (To q) = refl
  equal_same (Number z) (Number y) = refl
  equal_same (Number z) Null = refl
  equal_same Null (Number z) = refl
  equal_same Null Null = refl

  -- ---- operators

  pub pointers_same : (op : BinaryOp) (v w : Value) → at_pointers op m v w ≡ at_pointers op n v w
  pointers_same Sub v w = refl
  pointers_same Less v w = refl
  pointers_same Greater v w = refl
  pointers_same AtMost v w = refl
  pointers_same AtLeast v w = refl
  pointers_same Equal v w = ap (equality as_it_is) (equal_same v w)
  pointers_same Unequal v w = ap (equality not) (equal_same v w)
  pointers_same Mul v w = refl
  pointers_same Div v w = refl
  pointers_same Rem v w = refl
  pointers_same Add v w = refl
  pointers_same Shl v w = refl
  pointers_same Shr v w = refl
  pointers_same And v w = refl
  pointers_same Xor v w = refl
  pointers_same Or v w = refl

  pub left_same : (op : BinaryOp) (v w : Value) → at_pointer_left op m v w ≡ at_pointer_left op n v w
  left_same Add v w = moved_by_same v w
  left_same Sub v w = moved_back_same v w
  left_same Equal v w = ap (equality as_it_is) (equal_same v w)
  left_same Unequal v w = ap (equality not) (equal_same v w)
  left_same Mul v w = refl
  left_same Div v w = refl
  left_same Rem v w = refl
  left_same Shl v w = refl
  left_same Shr v w = refl
  left_same Less v w = refl
  left_same Greater v w = refl
  left_same AtMost v w = refl
  left_same AtLeast v w = refl
  left_same And v w = refl
  left_same Xor v w = refl
  left_same Or v w = refl

  pub right_same : (op : BinaryOp) (v w : Value) → at_pointer_right op m v w ≡ at_pointer_right op n v w
  right_same Add v w = moved_by_same w v
  right_same Equal v w = ap (equality as_it_is) (equal_same v w)
  right_same Unequal v w = ap (equality not) (equal_same v w)
  right_same Sub v w = refl
  right_same Mul v w = refl
  right_same Div v w = refl
  right_same Rem v w = refl
  right_same Shl v w = refl
  right_same Shr v w = refl
  right_same Less v w = refl
  right_same Greater v w = refl
  right_same AtMost v w = refl
  right_same AtLeast v w = refl
  right_same And v w = refl
  right_same Xor v w = refl
  right_same Or v w = refl
