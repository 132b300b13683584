-- A write changes one cell, and a block that begins or goes changes no cell of another.
use Rattle.std.proofs.Common.{◌≡◌, ℕ, zero, suc, ◌<◌, List, [], ◌∷◌, length, Option, Some, None, true, inl, inr, refl, sym, ap, ◌∙◌, subst}
use Rattle.std.specs.Prelude.{option_map, option_and_then, is_some, slice_get}
use Rattle.std.proofs.lemmas.Bool.Decides.{eqb_tells}
use Rattle.std.proofs.lemmas.Bool.{false≢true}
use Rattle.c_language.proofs.Options.{some_same}
use Rattle.c_language.specs.declared.expr_type.ExprType.{ExprType}
use Rattle.c_meaning.specs.declared.value.Hop.{Hop}
use Rattle.c_meaning.specs.declared.value.Place.{Place}
use Rattle.c_meaning.specs.declared.value.Value.{Value}
use Rattle.c_meaning.specs.Cells.{Structs, cell_number}
use Rattle.c_meaning.specs.Memory.{Block, Memory, cell_in, cell, is_cell, changed, filled, with_cell, write, with_new, gone, leave}
use Rattle.c_meaning.specs.Values.{leave_block}
use Rattle.c_meaning.specs.Acts.{Store, Request, stored, with_begun}
use Rattle.c_meaning.proofs.Frames.{get_changed, get_other, get_front}
use Rattle.dep_model.proofs.Membership.{IsIn}
use Rattle.run_facts.specs.KeptCells.{IsSameCell}
use Rattle.run_facts.proofs.Blocks.{get_more}

-- ---- a write

filled_keeps : (v : Value) (i k : Option ℕ) (os : List (Option Value)) → (i ≡ k → ⊥) → option_and_then (slice_get (filled v i os)) k ≡ option_and_then (slice_get os) k
filled_keeps v None k os h = refl
filled_keeps v (Some i) None os h = refl
filled_keeps v (Some i) (Some k) os h = get_other (λ (o : Option Value). Some v) i k os (λ e. h (ap Some e))

block_keeps : (structs : Structs) (here there : List Hop) (v : Value) (o : Option Block) → ((b : Block) → o ≡ Some b → cell_number structs here b.shape ≡ cell_number structs there b.shape → ⊥) → option_and_then (cell_in structs there) (option_map (with_cell structs here v) o) ≡ option_and_then (cell_in structs there) o
block_keeps structs here there v None h = refl
block_keeps structs here there v (Some b) h = filled_keeps v (cell_number structs here b.shape) (cell_number structs there b.shape) b.cells (h b refl)

pub write_keeps : (m : Memory) (p q : Place) (v : Value) → (IsSameCell m p q → ⊥) → cell (write p v m) q ≡ cell m q
write_keeps m p q v h =
    elim (eqb_tells p.block q.block) [
      | inl w ↦ ap (option_and_then (cell_in m.structs q.path)) (ap (λ n. slice_get (changed (with_cell m.structs p.path v) n m.blocks) q.block) w.1 ∙ get_changed (with_cell m.structs p.path v) q.block m.blocks) ∙ block_keeps m.structs p.path q.path v (slice_get m.blocks q.block) (λ b is same. h (one_cell w.1 b is same))
      | inr w ↦ ap (option_and_then (cell_in m.structs q.path)) (get_other (with_cell m.structs p.path v) p.block q.block m.blocks w.1)
    ]
  where
    one_cell : p.block ≡ q.block → (b : Block) → slice_get m.blocks q.block ≡ Some b → cell_number m.structs p.path b.shape ≡ cell_number m.structs q.path b.shape → IsSameCell m p q
    one_cell e b is same = record {
      block_is = e;
      numbers_are = λ c at. subst (λ (d : Block). cell_number m.structs p.path d.shape ≡ cell_number m.structs q.path d.shape) (some_same (sym is ∙ (ap (slice_get m.blocks) (sym e) ∙ at))) same;
    }

-- ---- what is a cell after a write was one before

changed_live : {A : Type 0} (f : A → A) (i k : ℕ) (xs : List A) → is_some (slice_get (changed f i xs) k) ≡ true → is_some (slice_get xs k) ≡ true
changed_live f i k [] h = h
changed_live f zero zero (x ∷ xs) h = refl
changed_live f zero (suc k) (x ∷ xs) h = h
changed_live f (suc i) zero (x ∷ xs) h = refl
changed_live f (suc i) (suc k) (x ∷ xs) h = changed_live f i k xs h

filled_live : (v : Value) (i k : Option ℕ) (os : List (Option Value)) → is_some (option_and_then (slice_get (filled v i os)) k) ≡ true → is_some (option_and_then (slice_get os) k) ≡ true
filled_live v None k os h = h
filled_live v (Some i) None os h = h
filled_live v (Some i) (Some k) os h = changed_live (λ (o : Option Value). Some v) i k os h

block_live : (structs : Structs) (here there : List Hop) (v : Value) (o : Option Block) → is_some (option_and_then (cell_in structs there) (option_map (with_cell structs here v) o)) ≡ true → is_some (option_and_then (cell_in structs there) o) ≡ true
block_live structs here there v None h = h
block_live structs here there v (Some b) h = filled_live v (cell_number structs here b.shape) (cell_number structs there b.shape) b.cells h

pub write_live : (m : Memory) (p q : Place) (v : Value) → is_cell (write p v m) q ≡ true → is_cell m q ≡ true
write_live m p q v h =
    elim (eqb_tells p.block q.block) [
      | inl w ↦ block_live m.structs p.path q.path v (slice_get m.blocks q.block) (sym (ap (λ o. is_some (option_and_then (cell_in m.structs q.path) o)) (ap (λ n. slice_get (changed (with_cell m.structs p.path v) n m.blocks) q.block) w.1 ∙ get_changed (with_cell m.structs p.path v) q.block m.blocks)) ∙ h)
      | inr w ↦ sym (ap (λ o. is_some (option_and_then (cell_in m.structs q.path) o)) (get_other (with_cell m.structs p.path v) p.block q.block m.blocks w.1)) ∙ h
    ]

pub stored_live : (ws : List Store) (m : Memory) (q : Place) → is_cell (stored ws m) q ≡ true → is_cell m q ≡ true
stored_live [] m q h = h
stored_live (w ∷ ws) m q h = write_live m w.place q w.value (stored_live ws (write w.place w.value m) q h)

-- ---- places are one cell before, where they are after

pub record KeepsShape (bs cs : List Block) : Type 0 where
  pub shapes : (k : ℕ) (b : Block) → slice_get bs k ≡ Some b → (c : Block) × (slice_get cs k ≡ Some c) × (c.shape ≡ b.shape)

pub same_before : (m n : Memory) (q r : Place) → m.structs ≡ n.structs → KeepsShape m.blocks n.blocks → IsSameCell n q r → IsSameCell m q r
same_before m n q r structs keeps h = record {
  block_is = h.block_is;
  numbers_are = λ b at.
      let c = keeps.shapes q.block b at in
      let e = h.numbers_are c.0 c.1 in
      subst (λ (t : ExprType). cell_number m.structs q.path t ≡ cell_number m.structs r.path t) c.2 (subst (λ ss. cell_number ss q.path c.0.shape ≡ cell_number ss r.path c.0.shape) (sym structs) e);
}

changed_shapes : (f : Block → Block) → ((b : Block) → (f b).shape ≡ b.shape) → (n : ℕ) (bs : List Block) → KeepsShape bs (changed f n bs)
changed_shapes f same n bs = record { shapes = at_ }
  where
    at_ : (k : ℕ) (b : Block) → slice_get bs k ≡ Some b → (c : Block) × (slice_get (changed f n bs) k ≡ Some c) × (c.shape ≡ b.shape)
    at_ k b e = elim (eqb_tells n k) [
      | inl w ↦ (f b, ap (λ i. slice_get (changed f i bs) k) w.1 ∙ (get_changed f k bs ∙ ap (option_map f) e), same b)
      | inr w ↦ (b, get_other f n k bs w.1 ∙ e, refl)
    ]

same_unwritten : (m : Memory) (p q r : Place) (v : Value) → IsSameCell (write p v m) q r → IsSameCell m q r
same_unwritten m p q r v =
    same_before m (write p v m) q r refl (changed_shapes (with_cell m.structs p.path v) (λ b. refl) p.block m.blocks)

pub same_unleft : (o : Option ℕ) (m : Memory) (q r : Place) → IsSameCell (leave_block o m) q r → IsSameCell m q r
same_unleft None m q r h = h
same_unleft (Some n) m q r h = same_before m (leave n m) q r refl (changed_shapes gone (λ b. refl) n m.blocks) h

pub same_unbegun : (o : Option Request) (m : Memory) (q r : Place) → IsSameCell (with_begun o m) q r → IsSameCell m q r
same_unbegun None m q r h = h
same_unbegun (Some k) m q r h =
    same_before m (with_begun (Some k) m) q r refl (record { shapes = λ n b e. (b, get_more m.blocks _ n b e, refl) }) h

-- ---- stores

pub stored_keeps : (ws : List Store) (m : Memory) (q : Place) → ((w : Store) → IsIn ws w → IsSameCell m w.place q → ⊥) → cell (stored ws m) q ≡ cell m q
stored_keeps [] m q h = refl
stored_keeps (w ∷ ws) m q h =
    stored_keeps ws (write w.place w.value m) q (λ u i same. h u (inr i) (same_unwritten m w.place u.place q w.value same)) ∙ write_keeps m w.place q w.value (h w (inl refl))

-- ---- blocks that begin and go

abbrev no_cells : List (Option Value)
no_cells = []

gone_dead : (structs : Structs) (path : List Hop) (o : Option Block) → is_some (option_and_then (cell_in structs path) (option_map gone o)) ≡ true → ⊥
gone_dead structs path None h = false≢true h
gone_dead structs path (Some b) h = by_number (cell_number structs path b.shape) h
  where
    by_number : (n : Option ℕ) → is_some (option_and_then (slice_get no_cells) n) ≡ true → ⊥
    by_number None k = false≢true k
    by_number (Some n) k = false≢true k

left_keeps : (n : ℕ) (m : Memory) (q : Place) → is_cell (leave n m) q ≡ true → cell (leave n m) q ≡ cell m q
left_keeps n m q live =
    elim (eqb_tells n q.block) [
      | inl w ↦ absurd (gone_dead m.structs q.path (slice_get m.blocks q.block) (sym (ap (λ o. is_some (option_and_then (cell_in m.structs q.path) o)) (ap (λ i. slice_get (changed gone i m.blocks) q.block) w.1 ∙ get_changed gone q.block m.blocks)) ∙ live))
      | inr w ↦ ap (option_and_then (cell_in m.structs q.path)) (get_other gone n q.block m.blocks w.1)
    ]

pub leave_keeps : (o : Option ℕ) (m : Memory) (q : Place) → is_cell (leave_block o m) q ≡ true → cell (leave_block o m) q ≡ cell m q
leave_keeps None m q live = refl
leave_keeps (Some n) m q live = left_keeps n m q live

pub new_keeps : (b : Block) (m : Memory) (q : Place) → q.block < length m.blocks → cell (with_new b m) q ≡ cell m q
new_keeps b m q lt = ap (option_and_then (cell_in m.structs q.path)) (get_front m.blocks b q.block lt)

pub begun_keeps : (o : Option Request) (m : Memory) (q : Place) → q.block < length m.blocks → cell (with_begun o m) q ≡ cell m q
begun_keeps None m q lt = refl
begun_keeps (Some r) m q lt = new_keeps _ m q lt
