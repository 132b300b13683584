-- Variables in their blocks: what a variable holds after a write and after a declaration.
use Rattle.std.proofs.Common.{◌≡◌, ◌≢◌, ℕ, zero, suc, ◌<◌, List, [], ◌∷◌, ◌++◌, length, Option, Some, None, true, inl, inr, refl, sym, ap, ◌∙◌, subst, arith, eq-eqb}
use Rattle.std.specs.Prelude.{is_some, slice_get, option_map, option_and_then}
use Rattle.std.proofs.lemmas.Bool.Decides.{eqb_tells}
use Rattle.std.proofs.lemmas.Bool.{ne_eqb}
use Rattle.c_arith.specs.declared.int_type.IntType.{IntType}
use Rattle.c_language.proofs.Options.{some_same}
use Rattle.c_language.specs.declared.expr_type.ExprType.{ExprType}
use Rattle.c_language.specs.DeclaredTypes.{integer}
use Rattle.c_meaning.specs.declared.value.Value.{Value}
use Rattle.c_meaning.specs.Cells.{Structs, cell_number}
use Rattle.c_meaning.specs.Memory.{Memory, Block, Entered, cell_in, cell, is_cell, held, read, changed, filled, with_cell, write, unwritten, enter}
use Rattle.c_meaning.specs.Values.{Types, State, whole, variable_place, bound, variable_opened}

-- what a variable holds, where it has begun and was written
abbrev pub variable_value : ℕ → State → Option Value
variable_value x s = option_and_then (read s.memory) (variable_place x s)

-- each variable that has begun has a cell of its own
pub record IsFramed (s : State) : Type 0 where
  pub alive : (x b : ℕ) → s.frame x ≡ Some b → is_cell s.memory (whole b) ≡ true
  pub apart : (x y b : ℕ) → s.frame x ≡ Some b → s.frame y ≡ Some b → x ≡ y

-- the state after a write to the whole of a block
abbrev pub after_write : ℕ → Value → State → State
after_write b v s = record s { memory = write (whole b) v s.memory }

-- ---- lists

pub get_changed : {A : Type 0} (f : A → A) (b : ℕ) (xs : List A) → slice_get (changed f b xs) b ≡ option_map f (slice_get xs b)
get_changed f b [] = refl
get_changed f zero (x ∷ xs) = refl
get_changed f (suc b) (x ∷ xs) = get_changed f b xs

pub get_other : {A : Type 0} (f : A → A) (b c : ℕ) (xs : List A) → b ≢ c → slice_get (changed f b xs) c ≡ slice_get xs c
get_other f b c [] ne = refl
get_other f zero zero (x ∷ xs) ne = absurd (ne refl)
get_other f zero (suc c) (x ∷ xs) ne = refl
get_other f (suc b) zero (x ∷ xs) ne = refl
get_other f (suc b) (suc c) (x ∷ xs) ne = get_other f b c xs (λ e. ne (ap suc e))

pub get_front : {A : Type 0} (xs : List A) (y : A) (c : ℕ) → c < length xs → slice_get (xs ++ y ∷ []) c ≡ slice_get xs c
get_front [] y c lt = absurd (omega (arith, lt))
get_front (x ∷ xs) y zero lt = refl
get_front (x ∷ xs) y (suc c) lt = get_front xs y c (omega (arith, lt))

pub get_last : {A : Type 0} (xs : List A) (y : A) → slice_get (xs ++ y ∷ []) (length xs) ≡ Some y
get_last [] y = refl
get_last (x ∷ xs) y = get_last xs y

-- ---- the cell of a block that is one cell

-- what the one cell of a block holds, where the block is one
abbrev one_cell : Structs → Option Block → Option (Option Value)
one_cell structs o = option_and_then (cell_in structs []) o

filled_here : (v : Value) (n : Option ℕ) (os : List (Option Value)) → option_and_then (slice_get (filled v n os)) n ≡ option_map (λ (o : Option Value). Some v) (option_and_then (slice_get os) n)
filled_here v None os = refl
filled_here v (Some n) os = get_changed (λ (o : Option Value). Some v) n os

cell_filled : (structs : Structs) (v : Value) (o : Option Block) → one_cell structs (option_map (with_cell structs [] v) o) ≡ option_map (λ (o : Option Value). Some v) (one_cell structs o)
cell_filled structs v None = refl
cell_filled structs v (Some k) = filled_here v (cell_number structs [] k.shape) k.cells

cell_written : (b : ℕ) (v : Value) (m : Memory) → cell (write (whole b) v m) (whole b) ≡ option_map (λ (o : Option Value). Some v) (cell m (whole b))
cell_written b v m =
    ap (one_cell m.structs) (get_changed (with_cell m.structs [] v) b m.blocks) ∙ cell_filled m.structs v (slice_get m.blocks b)

cell_beside : (b c : ℕ) (v : Value) (m : Memory) → b ≢ c → cell (write (whole b) v m) (whole c) ≡ cell m (whole c)
cell_beside b c v m ne = ap (one_cell m.structs) (get_other (with_cell m.structs [] v) b c m.blocks ne)

some_mapped : (v : Value) (o : Option (Option Value)) → is_some (option_map (λ (o : Option Value). Some v) o) ≡ is_some o
some_mapped v None = refl
some_mapped v (Some o) = refl

live_after : (b c : ℕ) (v : Value) (m : Memory) → is_cell (write (whole b) v m) (whole c) ≡ is_cell m (whole c)
live_after b c v m =
    elim (eqb_tells b c) [
      | inl w ↦ subst (λ d. is_cell (write (whole b) v m) (whole d) ≡ is_cell m (whole d)) w.1 (ap is_some (cell_written b v m) ∙ some_mapped v (cell m (whole b)))
      | inr w ↦ ap is_some (cell_beside b c v m w.1)
    ]

held_filled : (v : Value) (o : Option (Option Value)) → is_some o ≡ true → option_and_then held (option_map (λ (o : Option Value). Some v) o) ≡ Some v
held_filled v None h = cc
held_filled v (Some o) h = refl

within_list : (structs : Structs) (bs : List Block) (c : ℕ) → is_some (one_cell structs (slice_get bs c)) ≡ true → c < length bs
within_list structs [] c h = cc
within_list structs (j ∷ bs) zero h = omega arith
within_list structs (j ∷ bs) (suc c) h = let lt = within_list structs bs c h in omega (arith, lt)

pub live_within : (m : Memory) (c : ℕ) → is_cell m (whole c) ≡ true → c < length m.blocks
live_within m c h = within_list m.structs m.blocks c h

-- ---- a write

pub written_here : (s : State) (x b : ℕ) (v : Value) → IsFramed s → s.frame x ≡ Some b → variable_value x (after_write b v s) ≡ Some v
written_here s x b v framed e =
    ap (λ o. option_and_then (read (write (whole b) v s.memory)) (option_map whole o)) e ∙ ap (option_and_then held) (cell_written b v s.memory) ∙ held_filled v (cell s.memory (whole b)) (framed.alive x b e)

elsewhere : (s : State) (y b : ℕ) (v : Value) (o : Option ℕ) → s.frame y ≡ o → ((c : ℕ) → o ≡ Some c → b ≢ c) → option_and_then (read (write (whole b) v s.memory)) (option_map whole o) ≡ option_and_then (read s.memory) (option_map whole o)
elsewhere s y b v None e h = refl
elsewhere s y b v (Some c) e h = ap (option_and_then held) (cell_beside b c v s.memory (h c refl))

pub written_elsewhere : (s : State) (x y b : ℕ) (v : Value) → IsFramed s → s.frame x ≡ Some b → x ≢ y → variable_value y (after_write b v s) ≡ variable_value y s
written_elsewhere s x y b v framed e ne =
    elsewhere s y b v (s.frame y) refl (λ c is same. ne (framed.apart x y b e (is ∙ ap Some (sym same))))

pub written_framed : (s : State) (b : ℕ) (v : Value) → IsFramed s → IsFramed (after_write b v s)
written_framed s b v framed =
    record { alive = λ x c e. live_after b c v s.memory ∙ framed.alive x c e; apart = framed.apart }

-- ---- frames

pub bound_here : (frame : ℕ → Option ℕ) (x : ℕ) (b : Option ℕ) → bound frame x b x ≡ b
bound_here frame x b = rw (eq-eqb x x refl) refl

pub bound_other : (frame : ℕ → Option ℕ) (x y : ℕ) (b : Option ℕ) → x ≢ y → bound frame x b y ≡ frame y
bound_other frame x y b ne = rw (ne_eqb x y ne) refl

-- ---- a new block

-- the new variable is an integer
module _ (types : Types) (s : State) (x : ℕ) (k : IntType) (shape : types.typing.variable x ≡ integer k) (framed : IsFramed s) where
  pub opened_here : (variable_opened types x s).frame x ≡ Some (length s.memory.blocks)
  opened_here = bound_here s.frame x (Some (length s.memory.blocks))

  pub opened_other : (y : ℕ) → x ≢ y → (variable_opened types x s).frame y ≡ s.frame y
  opened_other y ne = bound_other s.frame x y (Some (length s.memory.blocks)) ne

  -- its cell holds nothing
  new_cell : cell (enter (types.typing.variable x) s.memory) (whole (length s.memory.blocks)) ≡ Some None
  new_cell =
      ap (one_cell s.memory.structs) (get_last s.memory.blocks (unwritten s.memory.structs (types.typing.variable x) Entered)) ∙ ap (λ (t : ExprType). cell_in s.memory.structs [] (unwritten s.memory.structs t Entered)) shape

  pub unwritten_here : variable_value x (variable_opened types x s) ≡ None
  unwritten_here =
      ap (λ o. option_and_then (read (enter (types.typing.variable x) s.memory)) (option_map whole o)) opened_here ∙ ap (option_and_then held) new_cell

  cell_before : (c : ℕ) → is_cell s.memory (whole c) ≡ true → cell (enter (types.typing.variable x) s.memory) (whole c) ≡ cell s.memory (whole c)
  cell_before c h =
      ap (one_cell s.memory.structs) (get_front s.memory.blocks (unwritten s.memory.structs (types.typing.variable x) Entered) c (live_within s.memory c h))

  kept_by_entry : (y : ℕ) (o : Option ℕ) → s.frame y ≡ o → option_and_then (read (enter (types.typing.variable x) s.memory)) (option_map whole o) ≡ option_and_then (read s.memory) (option_map whole o)
  kept_by_entry y None e = refl
  kept_by_entry y (Some c) e = ap (option_and_then held) (cell_before c (framed.alive y c e))

  pub opened_elsewhere : (y : ℕ) → x ≢ y → variable_value y (variable_opened types x s) ≡ variable_value y s
  opened_elsewhere y ne =
      ap (λ o. option_and_then (read (enter (types.typing.variable x) s.memory)) (option_map whole o)) (opened_other y ne) ∙ kept_by_entry y (s.frame y) refl

  live_entered : (c : ℕ) → is_cell s.memory (whole c) ≡ true → is_cell (enter (types.typing.variable x) s.memory) (whole c) ≡ true
  live_entered c h = ap is_some (cell_before c h) ∙ h

  alive_opened : (y b : ℕ) → (variable_opened types x s).frame y ≡ Some b → is_cell (enter (types.typing.variable x) s.memory) (whole b) ≡ true
  alive_opened y b e =
      elim (eqb_tells x y) [
        | inl w ↦ subst (λ c. is_cell (enter (types.typing.variable x) s.memory) (whole c) ≡ true) (some_same (sym opened_here ∙ (ap (λ z. (variable_opened types x s).frame z) w.1 ∙ e))) (ap is_some new_cell)
        | inr w ↦ live_entered b (framed.alive y b (sym (opened_other y w.1) ∙ e))
      ]

  -- the block of another variable isn't the new one
  not_new : (y b : ℕ) → x ≢ y → (variable_opened types x s).frame y ≡ Some b → (variable_opened types x s).frame x ≡ Some b → ⊥
  not_new y b ne e new =
      let lt = live_within s.memory b (framed.alive y b (sym (opened_other y ne) ∙ e)) in
      let same : length s.memory.blocks ≡ b = some_same (sym opened_here ∙ new) in
      omega (arith, lt, same)

  apart_opened : (y z b : ℕ) → (variable_opened types x s).frame y ≡ Some b → (variable_opened types x s).frame z ≡ Some b → y ≡ z
  apart_opened y z b e k =
      elim (eqb_tells x y) [
        | inl w ↦ elim (eqb_tells x z) [
          | inl v ↦ sym w.1 ∙ v.1
          | inr v ↦ absurd (not_new z b v.1 k (ap (λ q. (variable_opened types x s).frame q) w.1 ∙ e))
        ]
        | inr w ↦ elim (eqb_tells x z) [
          | inl v ↦ absurd (not_new y b w.1 e (ap (λ q. (variable_opened types x s).frame q) v.1 ∙ k))
          | inr v ↦ framed.apart y z b (sym (opened_other y w.1) ∙ e) (sym (opened_other z v.1) ∙ k)
        ]
      ]

  pub opened_framed : IsFramed (variable_opened types x s)
  opened_framed = record { alive = alive_opened; apart = apart_opened }
