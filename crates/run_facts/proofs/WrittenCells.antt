-- A cell holds what was stored in it last, and stays a cell where others are written.
use Rattle.std.proofs.Common.{◌≡◌, ℕ, zero, suc, List, [], ◌∷◌, ◌++◌, map, Option, Some, None, true, inl, inr, refl, sym, ap, ◌∙◌, subst}
use Rattle.std.specs.Prelude.{Contains, option_map, option_and_then, is_some, slice_get}
use Rattle.std.proofs.lemmas.Bool.Decides.{eqb_tells}
use Rattle.std.proofs.lemmas.Bool.{false≢true}
use Rattle.c_language.proofs.Options.{map_there}
use Rattle.c_meaning.specs.declared.value.Hop.{Hop}
use Rattle.c_meaning.specs.declared.value.Place.{Place}
use Rattle.c_meaning.specs.declared.value.Value.{Value}
use Rattle.c_meaning.specs.Cells.{Structs, cell_number}
use Rattle.c_meaning.specs.Memory.{Block, Memory, held, cell_in, cell, is_cell, read, changed, filled, with_cell, write}
use Rattle.c_meaning.specs.Acts.{Store, stored}
use Rattle.c_meaning.proofs.Frames.{get_changed, get_other}
use Rattle.dep_model.proofs.Membership.{contains_of_in, in_map}
use Rattle.run_facts.specs.DoneEffects.{IsLastStore}
use Rattle.run_facts.specs.Effects.{Touch, storing}
use Rattle.run_facts.specs.KeptCells.{IsSameCell}
use Rattle.run_facts.proofs.KeptMemories.{KeepsShape, same_before, stored_live, stored_keeps}

-- ---- a cell that is written

item_filled : (v : Value) (n : ℕ) (os : List (Option Value)) → is_some (slice_get os n) ≡ true → slice_get (changed (λ (o : Option Value). Some v) n os) n ≡ Some (Some v)
item_filled v n os live = by_item (slice_get os n) refl
  where
    by_item : (o : Option (Option Value)) → slice_get os n ≡ o → slice_get (changed (λ (o : Option Value). Some v) n os) n ≡ Some (Some v)
    by_item None is = absurd (false≢true (sym (ap is_some is) ∙ live))
    by_item (Some w) is = get_changed (λ (o : Option Value). Some v) n os ∙ ap (option_map (λ (o : Option Value). Some v)) is

filled_there : (v : Value) (k : Option ℕ) (os : List (Option Value)) → is_some (option_and_then (slice_get os) k) ≡ true → option_and_then (slice_get (filled v k os)) k ≡ Some (Some v)
filled_there v None os live = absurd (false≢true live)
filled_there v (Some n) os live = item_filled v n os live

block_filled : (structs : Structs) (path : List Hop) (v : Value) (o : Option Block) → is_some (option_and_then (cell_in structs path) o) ≡ true → option_and_then (cell_in structs path) (option_map (with_cell structs path v) o) ≡ Some (Some v)
block_filled structs path v None live = absurd (false≢true live)
block_filled structs path v (Some b) live = filled_there v (cell_number structs path b.shape) b.cells live

pub written : (m : Memory) (q : Place) (v : Value) → is_cell m q ≡ true → cell (write q v m) q ≡ Some (Some v)
written m q v live =
    ap (option_and_then (cell_in m.structs q.path)) (get_changed (with_cell m.structs q.path v) q.block m.blocks) ∙ block_filled m.structs q.path v (slice_get m.blocks q.block) live

-- ---- cells stay cells

changed_there : {A : Type 0} (f : A → A) (i k : ℕ) (xs : List A) → is_some (slice_get xs k) ≡ true → is_some (slice_get (changed f i xs) k) ≡ true
changed_there f i k [] h = h
changed_there f zero zero (x ∷ xs) h = refl
changed_there f zero (suc k) (x ∷ xs) h = h
changed_there f (suc i) zero (x ∷ xs) h = refl
changed_there f (suc i) (suc k) (x ∷ xs) h = changed_there f i k xs h

filled_kept : (v : Value) (i k : Option ℕ) (os : List (Option Value)) → is_some (option_and_then (slice_get os) k) ≡ true → is_some (option_and_then (slice_get (filled v i os)) k) ≡ true
filled_kept v None k os h = h
filled_kept v (Some i) None os h = h
filled_kept v (Some i) (Some k) os h = changed_there (λ (o : Option Value). Some v) i k os h

block_kept : (structs : Structs) (here there : List Hop) (v : Value) (o : Option Block) → is_some (option_and_then (cell_in structs there) o) ≡ true → is_some (option_and_then (cell_in structs there) (option_map (with_cell structs here v) o)) ≡ true
block_kept structs here there v None h = h
block_kept structs here there v (Some b) h = filled_kept v (cell_number structs here b.shape) (cell_number structs there b.shape) b.cells h

pub write_there : (m : Memory) (p q : Place) (v : Value) → is_cell m q ≡ true → is_cell (write p v m) q ≡ true
write_there m p q v h =
    elim (eqb_tells p.block q.block) [
      | inl w ↦ ap (λ o. is_some (option_and_then (cell_in m.structs q.path) o)) (ap (λ n. slice_get (changed (with_cell m.structs p.path v) n m.blocks) q.block) w.1 ∙ get_changed (with_cell m.structs p.path v) q.block m.blocks) ∙ block_kept m.structs p.path q.path v (slice_get m.blocks q.block) h
      | inr w ↦ ap (λ o. is_some (option_and_then (cell_in m.structs q.path) o)) (get_other (with_cell m.structs p.path v) p.block q.block m.blocks w.1) ∙ h
    ]

pub stored_there : (ws : List Store) (m : Memory) (q : Place) → is_cell m q ≡ true → is_cell (stored ws m) q ≡ true
stored_there [] m q h = h
stored_there (w ∷ ws) m q h = stored_there ws (write w.place w.value m) q (write_there m w.place q w.value h)

-- ---- places that are one cell before are one after

unchanged_shapes : (f : Block → Block) → ((b : Block) → (f b).shape ≡ b.shape) → (n : ℕ) (bs : List Block) → KeepsShape (changed f n bs) bs
unchanged_shapes f same n bs = record { shapes = at_ }
  where
    at_ : (k : ℕ) (b : Block) → slice_get (changed f n bs) k ≡ Some b → (c : Block) × (slice_get bs k ≡ Some c) × (c.shape ≡ b.shape)
    at_ k b e = elim (eqb_tells n k) [
      | inl w ↦ let h = map_there f (slice_get bs k) b (sym (ap (λ i. slice_get (changed f i bs) k) w.1 ∙ get_changed f k bs) ∙ e) in (h.value, h.there, sym (same h.value) ∙ ap (λ (c : Block). c.shape) h.same)
      | inr w ↦ (b, sym (get_other f n k bs w.1) ∙ e, refl)
    ]

same_written : (m : Memory) (p q r : Place) (v : Value) → IsSameCell m q r → IsSameCell (write p v m) q r
same_written m p q r v =
    same_before (write p v m) m q r refl (unchanged_shapes (with_cell m.structs p.path v) (λ b. refl) p.block m.blocks)

same_stored : (ws : List Store) (m : Memory) (q r : Place) → IsSameCell m q r → IsSameCell (stored ws m) q r
same_stored [] m q r h = h
same_stored (w ∷ ws) m q r h = same_stored ws (write w.place w.value m) q r (same_written m w.place q r w.value h)

-- ---- the last store

-- the head and the tail of a list that is another one's
pub same_head : {A : Type 0} (x y : A) (xs ys : List A) → x ∷ xs ≡ y ∷ ys → x ≡ y
same_head x y xs ys e = cc

pub same_tail : {A : Type 0} (x y : A) (xs ys : List A) → x ∷ xs ≡ y ∷ ys → xs ≡ ys
same_tail x y xs ys e = cc

last_first : (x : Store) (ws : List Store) (m : Memory) → ((u : Touch) → Contains (map storing ws) u → IsSameCell (stored (x ∷ ws) m) u.cell x.place → ⊥) → is_cell m x.place ≡ true → read (stored (x ∷ ws) m) x.place ≡ Some x.value
last_first x ws m none live =
    let first = write x.place x.value m in
    ap (option_and_then held) (stored_keeps ws first x.place (λ u j same. none (storing u) (contains_of_in (map storing ws) (storing u) (in_map storing ws u j)) (same_stored ws first u.place x.place same)) ∙ written m x.place x.value live)

last_after : (ws : List Store) (earlier later : List Touch) (w : Touch) (m : Memory) → map storing ws ≡ earlier ++ (w ∷ later) → ((u : Touch) → Contains later u → IsSameCell (stored ws m) u.cell w.cell → ⊥) → is_cell m w.cell ≡ true → read (stored ws m) w.cell ≡ w.value
last_after [] [] later w m e none live = cc
last_after [] (x ∷ earlier) later w m e none live = cc
last_after (x ∷ ws) [] later w m e none live =
    let head = same_head (storing x) w (map storing ws) later e in
    let tail = same_tail (storing x) w (map storing ws) later e in
    subst (λ (z : Touch). read (stored (x ∷ ws) m) z.cell ≡ z.value) head
    (last_first x ws m (λ u j same. none u (subst (λ us. Contains us u) tail j) (subst (λ (z : Touch). IsSameCell (stored (x ∷ ws) m) u.cell z.cell) head same)) (subst (λ (z : Touch). is_cell m z.cell ≡ true) (sym head) live))
last_after (x ∷ ws) (y ∷ earlier) later w m e none live =
    last_after ws earlier later w (write x.place x.value m) (same_tail (storing x) y (map storing ws) (earlier ++ (w ∷ later)) e) none (write_there m x.place w.cell x.value live)

-- what is stored last in a cell is there
pub last_stored : (ws : List Store) (m : Memory) (w : Touch) → IsLastStore (stored ws m) (map storing ws) w → is_cell (stored ws m) w.cell ≡ true → read (stored ws m) w.cell ≡ w.value
last_stored ws m w h live =
    last_after ws h.earlier h.later w m h.stores_are h.none_later (stored_live ws m w.cell live)
