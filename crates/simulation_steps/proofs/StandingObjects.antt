-- What is asked of a memory besides what cells hold comes to the same of a place, and of one in a block that stands for its block.
use Rattle.std.proofs.Common.{◌≡◌, ℕ, ◌<◌, ◌==◌, ℤ, List, [], ◌∷◌, ◌++◌, length, Option, Some, None, Bool, true, false, ◌&&◌, ◌||◌, inl, inr, refl, sym, ap, ap₂, ◌∙◌, subst, arith, eq-eqb}
use Rattle.std.specs.Prelude.{◌+ℤ◌, pos, negsuc, neg_ℤ, nat_le, nat_lt, option_map, option_and_then, slice_get, if◌then◌else◌}
use Rattle.std.specs.Option.{option_map_or}
use Rattle.std.proofs.lemmas.Bool.Decides.{eqb_tells}
use Rattle.std.proofs.lemmas.Bool.{ne_eqb, false≢true}
use Rattle.std.proofs.lemmas.Option.{slice_get_within, slice_get_cases}
use Rattle.c_language.proofs.Options.{some_same}
use Rattle.c_language.specs.Lists.{same_all}
use Rattle.c_language.specs.declared.expr_type.Layer.{Layer}
use Rattle.c_language.specs.declared.expr_type.Layer.TheVariants as layer
use Rattle.c_language.specs.declared.expr_type.ExprType.{ExprType}
use Rattle.c_language.specs.ExprTypes.{same_type}
use Rattle.c_meaning.specs.declared.value.Hop.{Hop}
use Rattle.c_meaning.specs.declared.value.Place.{Place}
use Rattle.c_meaning.specs.declared.value.Pointer.{Pointer}
use Rattle.c_meaning.specs.declared.value.Value.{Value}
use Rattle.c_meaning.specs.declared.value.Value.TheVariants.{To}
use Rattle.c_meaning.specs.Cells.{Structs, Subobject, subobject}
use Rattle.c_meaning.specs.Memory.{Block, Memory, read}
use Rattle.c_meaning.specs.Pointers.{type_at, inside, start, length_in, length_at, item_in, item_at, pointed, if_typed, designated, at_index, moved, moved_by, moved_back, same_hop, are_together, is_end, may_touch, same_pointer, are_equal}
use Rattle.c_meaning.specs.Values.{State, beside}
use Rattle.simulation.specs.Renaming.{World, Stands, AlikeValue, number, null, pointer, AlikeCell, empty, held, cell_at, Names, BlocksStand}
use Rattle.simulation_steps.proofs.Outcomes.{ComesToo, undefined, comes, AlikeList, cons, AlikePlace, HoldsAlike}

-- ---- results

pub then_too : {A B C D : Type 0} (R : A → B → Type 0) (S : C → D → Type 0) (f : A → Option C) (g : B → Option D) (a : Option A) (b : Option B) → ComesToo R a b → ((x : A) (y : B) → R x y → ComesToo S (f x) (g y)) → ComesToo S (option_and_then f a) (option_and_then g b)
then_too R S f g a b undefined h = undefined
then_too R S f g a b (comes {a = x} {b = y} r) h = h x y r

pub map_too : {A B C D : Type 0} (R : A → B → Type 0) (S : C → D → Type 0) (f : A → C) (g : B → D) (a : Option A) (b : Option B) → ComesToo R a b → ((x : A) (y : B) → R x y → S (f x) (g y)) → ComesToo S (option_map f a) (option_map g b)
map_too R S f g a b undefined h = undefined
map_too R S f g a b (comes {a = x} {b = y} r) h = comes (h x y r)

-- where the first is there, the second is, and they are in the relation
pub record Comes {A B : Type 0} (R : A → B → Type 0) (x : A) (o : Option B) : Type 0 where
  pub value : B
  pub value_is : o ≡ Some value
  pub alike : R x value

pub came : {A B : Type 0} (R : A → B → Type 0) (a : Option A) (b : Option B) (x : A) → ComesToo R a b → a ≡ Some x → Comes R x b
came R a b x undefined e = cc
came R a b x (comes {a = z} {b = y} r) e = record { value = y; value_is = refl; alike = subst (λ u. R u y) (some_same e) r }

-- the second is there where the first is
pub if_too : {A B : Type 0} (R : A → B → Type 0) (b c : Bool) (x : A) (y : B) → (b ≡ true → c ≡ true) → R x y → ComesToo R (if b then Some x else None) (if c then Some y else None)
if_too R true true x y h r = comes r
if_too R true false x y h r = absurd (false≢true (h refl))
if_too R false c x y h r = undefined

pub weaker_too : {A B : Type 0} (R S : A → B → Type 0) (a : Option A) (b : Option B) → ((x : A) (y : B) → R x y → S x y) → ComesToo R a b → ComesToo S a b
weaker_too R S a b h undefined = undefined
weaker_too R S a b h (comes {a = x} {b = y} r) = comes (h x y r)

-- ---- places and pointers

abbrev pub at : ℕ → List Hop → ℕ → Pointer
at b path i = record { block = b; path = path; index = i }

module _ (w : World) where
  pub place_too : (q r : Place) → AlikePlace w q r → r ≡ cell_at r.block q.path
  place_too q r e = ap (λ (path : List Hop). cell_at r.block path) e.path_is

  either_place : (b : Bool) (q r : Place) → AlikePlace w q r → ComesToo (AlikePlace w) (if b then Some q else None) (if b then Some r else None)
  either_place true q r e = comes e
  either_place false q r e = undefined

  pub inside_too : (h : Hop) (q r : Place) → AlikePlace w q r → AlikePlace w (inside h q) (inside h r)
  inside_too h q r e = record { stands = e.stands; path_is = ap (λ (path : List Hop). path ++ h ∷ []) e.path_is }

  item_placed : (ls : List Layer) (i b c : ℕ) (path : List Hop) → Stands w b c → AlikePlace w (item_in ls i (cell_at b path)) (item_in ls i (cell_at c path))
  item_placed [] i b c path e = record { stands = e; path_is = refl }
  item_placed (layer.Pointer ∷ ls) i b c path e = record { stands = e; path_is = refl }
  item_placed (layer.Array k ∷ ls) i b c path e = record { stands = e; path_is = refl }

  -- a pointer to an object, or to the first element of an array
  pub start_too : (q r : Place) → AlikePlace w q r → AlikeValue w (start q) (start r)
  start_too q r e = subst (λ (path : List Hop). AlikeValue w (start q) (To (at r.block path 0))) (sym e.path_is) (pointer e.stands)

  pub of_cell : (u v : Option Value) → AlikeCell w u v → ComesToo (AlikeValue w) u v
  of_cell u v empty = undefined
  of_cell u v (held e) = comes e

  pub beside_too : (a c : Option Value) (b d : Option (List Value)) → ComesToo (AlikeValue w) a c → ComesToo (AlikeList (AlikeValue w)) b d → ComesToo (AlikeList (AlikeValue w)) (beside a b) (beside c d)
  beside_too a c b d undefined k = undefined
  beside_too a c b d (comes h) undefined = undefined
  beside_too a c b d (comes h) (comes k) = comes (cons h k)

module _ (names : Names) (w : World) (s t : State) (blocks : BlocksStand names w s t) where
  abbrev m : Memory
  m = s.memory

  abbrev n : Memory
  n = t.memory

  abbrev pub Values : Option Value → Option Value → Type 0
  Values = ComesToo (AlikeValue w)

  abbrev pub Places : Option Place → Option Place → Type 0
  Places = ComesToo (AlikePlace w)

  -- ---- types of objects

  abbrev type_in : Structs → List Hop → ExprType → Option ExprType
  type_in structs path shape = option_map (λ (o : Subobject). o.type) (subobject structs path shape)

  -- a block that stands for another, and that one, have one type
  pub record BothThere (b c : ℕ) : Type 0 where
    pub block : Block
    pub there : Block
    pub kind_is : there.kind ≡ block.kind
    pub block_is : slice_get m.blocks b ≡ Some block
    pub there_is : slice_get n.blocks c ≡ Some there
    pub shape_is : there.shape ≡ block.shape
    pub gone : there.is_live ≡ false → block.is_live ≡ false

  get_within : (c : ℕ) → c < length n.blocks → (k : Block) × (slice_get n.blocks c ≡ Some k)
  get_within c low = elim (slice_get_cases n.blocks c).1 [ inl h ↦ (h.0, h.2) | inr h ↦ (let past = h.0 in absurd (omega (arith, low, past))) ]

  pub both_there : (b c : ℕ) → Stands w b c → BothThere b c
  both_there b c e =
      let low = slice_get_within w c b e in
      let count = blocks.count_is in
      let k = get_within c (omega (arith, low, count)) in
      let one = blocks.each c k.0 k.1 in
      record {
        block = one.block;
        there = k.0;
        kind_is = one.kind_is;
        block_is = subst (λ (i : ℕ). slice_get m.blocks i ≡ Some one.block) (some_same (sym one.stands ∙ e)) one.block_is;
        there_is = k.1;
        shape_is = one.shape_is;
        gone = one.gone;
      }

  type_too : (b c : ℕ) (path : List Hop) → Stands w b c → type_at m (cell_at b path) ≡ type_at n (cell_at c path)
  type_too b c path e =
      let k = both_there b c e in
      ap (λ (o : Option Block). option_and_then (λ (d : Block). type_in m.structs path d.shape) o) k.block_is ∙ (ap₂ (λ ss t. type_in ss path t) blocks.structs_are (sym k.shape_is) ∙ sym (ap (λ (o : Option Block). option_and_then (λ (d : Block). type_in n.structs path d.shape) o) k.there_is))

  -- ---- objects

  place_typed : (q r : Place) → AlikePlace w q r → type_at m q ≡ type_at n r
  place_typed q r e = type_too q.block r.block q.path e.stands ∙ ap (type_at n) (sym (place_too w q r e))

  pub typed_too : (k : ExprType) (q r : Place) → AlikePlace w q r → Places (if_typed m k q) (if_typed n k r)
  typed_too k q r e =
      subst (λ (o : Option ExprType). Places (if_typed m k q) (if option_map_or (same_type k) o false then Some r else None)) (place_typed q r e) (either_place w (option_map_or (same_type k) (type_at m q) false) q r e)

  item_too : (b c : ℕ) (path : List Hop) (i : ℕ) (o : Option ExprType) → Stands w b c → Places (option_and_then (item_at (at b path i)) o) (option_and_then (item_at (at c path i)) o)
  item_too b c path i None e = undefined
  item_too b c path i (Some k) e = either_place w (nat_lt i (length_in k.layers)) _ _ (item_placed w k.layers i b c path e)

  pointed_too : (b c : ℕ) (path : List Hop) (i : ℕ) → Stands w b c → Places (pointed m (at b path i)) (pointed n (at c path i))
  pointed_too b c path i e =
      subst (λ o. Places (pointed m (at b path i)) (option_and_then (item_at (at c path i)) o)) (type_too b c path e) (item_too b c path i (type_at m (cell_at b path)) e)

  pub designated_too : (k : ExprType) (u v : Value) → AlikeValue w u v → Places (designated m k u) (designated n k v)
  designated_too k u v number = undefined
  designated_too k u v null = undefined
  designated_too k u v (pointer {b = b} {c = c} {path = path} {index = i} e) =
      then_too (AlikePlace w) (AlikePlace w) (if_typed m k) (if_typed n k) (pointed m (at b path i)) (pointed n (at c path i)) (pointed_too b c path i e) (typed_too k)

  -- the value of an object of which this cell is read
  read_too : (q r : Place) → AlikePlace w q r → HoldsAlike w s t q → Values (read m q) (read n r)
  read_too q r e h = subst (λ (z : Place). Values (read m q) (read n z)) (sym (place_too w q r e)) (h r.block e.stands)

  pub object_too : (array : Bool) (q r : Place) → AlikePlace w q r → (array ≡ false → HoldsAlike w s t q) → Values (if array then Some (start q) else read m q) (if array then Some (start r) else read n r)
  object_too true q r e h = comes (start_too w q r e)
  object_too false q r e h = read_too q r e (h refl)

  -- ---- moves

  length_too : (b c : ℕ) (path : List Hop) (i : ℕ) → Stands w b c → length_at m (at b path i) ≡ length_at n (at c path i)
  length_too b c path i e = ap (option_map (λ (k : ExprType). length_in k.layers)) (type_too b c path e)

  moved_to : (b c : ℕ) (path : List Hop) (i j : ℕ) (inside_ : Bool) → Stands w b c → Values (if inside_ then Some (To (at b path j)) else None) (if inside_ then Some (To (at c path j)) else None)
  moved_to b c path i j true e = comes (pointer e)
  moved_to b c path i j false e = undefined

  index_too : (b c : ℕ) (path : List Hop) (i k : ℕ) (z : ℤ) → Stands w b c → Values (at_index (at b path i) k z) (at_index (at c path i) k z)
  index_too b c path i k (pos j) e = moved_to b c path i j (nat_le j k) e
  index_too b c path i k (negsuc j) e = undefined

  indexed_too : (b c : ℕ) (path : List Hop) (i : ℕ) (z : ℤ) (o : Option ℕ) → Stands w b c → Values (option_and_then (λ (k : ℕ). at_index (at b path i) k z) o) (option_and_then (λ (k : ℕ). at_index (at c path i) k z) o)
  indexed_too b c path i z None e = undefined
  indexed_too b c path i z (Some k) e = index_too b c path i k z e

  moved_too : (z : ℤ) (u v : Value) → AlikeValue w u v → Values (moved m z u) (moved n z v)
  moved_too z u v number = undefined
  moved_too z u v null = undefined
  moved_too z u v (pointer {b = b} {c = c} {path = path} {index = i} e) =
      subst (λ o. Values (moved m z (To (at b path i))) (option_and_then (λ (k : ℕ). at_index (at c path i) k (pos i +ℤ z)) o)) (length_too b c path i e) (indexed_too b c path i (pos i +ℤ z) (length_at m (at b path i)) e)

  pub moved_by_too : (a b c d : Value) → AlikeValue w a c → AlikeValue w b d → Values (moved_by m a b) (moved_by n c d)
  moved_by_too a b c d e (number {z = z}) = moved_too z a c e
  moved_by_too a b c d e null = undefined
  moved_by_too a b c d e (pointer f) = undefined

  pub moved_back_too : (a b c d : Value) → AlikeValue w a c → AlikeValue w b d → Values (moved_back m a b) (moved_back n c d)
  moved_back_too a b c d e (number {z = z}) = moved_too (neg_ℤ z) a c e
  moved_back_too a b c d e null = undefined
  moved_back_too a b c d e (pointer f) = undefined

  -- ---- comparisons

  same_block : (b c d e : ℕ) → Stands w b c → Stands w d e → (b == d) ≡ (c == e)
  same_block b c d e h k =
      elim (eqb_tells b d) [
        | inl x ↦ (let one = blocks.one_to_one d c e (subst (λ i. Stands w i c) x.1 h) k in eq-eqb b d x.1 ∙ sym (eq-eqb c e one))
        | inr x ↦ ne_eqb b d x.1 ∙ sym (ne_eqb c e (λ same. x.1 (some_same (sym h ∙ (ap (slice_get w) same ∙ k)))))
      ]

  pub together_too : (b c d e : ℕ) (path more : List Hop) (i j : ℕ) → Stands w b c → Stands w d e → are_together (at b path i) (at d more j) ≡ are_together (at c path i) (at e more j)
  together_too b c d e path more i j h k = ap (λ x. x && same_all same_hop path more) (same_block b c d e h k)

  end_too : (b c : ℕ) (path : List Hop) (i : ℕ) → Stands w b c → is_end m (at b path i) ≡ is_end n (at c path i)
  end_too b c path i e = ap (λ o. option_map_or (λ (k : ℕ). i == k) o false) (length_too b c path i e)

  touch_too : (b c d e : ℕ) (path more : List Hop) (i j : ℕ) → Stands w b c → Stands w d e → may_touch m (at b path i) (at d more j) ≡ may_touch n (at c path i) (at e more j)
  touch_too b c d e path more i j h k = ap₂ (λ x y. (x && (j == 0)) || (y && (i == 0))) (end_too b c path i h) (end_too d e more j k)

  pointers_too : (b c d e : ℕ) (path more : List Hop) (i j : ℕ) → Stands w b c → Stands w d e → same_pointer m (at b path i) (at d more j) ≡ same_pointer n (at c path i) (at e more j)
  pointers_too b c d e path more i j h k =
      ap₂ (λ x y. if x then Some (i == j) else (if y then None else Some false)) (together_too b c d e path more i j h k) (touch_too b c d e path more i j h k)

  pub equal_too : (a b c d : Value) → AlikeValue w a c → AlikeValue w b d → are_equal m a b ≡ are_equal n c d
  equal_too a b c d (pointer {b = x} {c = y} {path = path} {index = i} h) (pointer {b = z} {c = u} {path = more} {index = j} k) = pointers_too x y z u path more i j h k
  equal_too a b c d (pointer h) number = refl
  equal_too a b c d (pointer h) null = refl
  equal_too a b c d number (pointer k) = refl
  equal_too a b c d null (pointer k) = refl
  equal_too a b c d number number = refl
  equal_too a b c d number null = refl
  equal_too a b c d null number = refl
  equal_too a b c d null null = refl
