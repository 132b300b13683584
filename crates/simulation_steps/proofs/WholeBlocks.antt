-- Blocks are whole at each point of a run: a live one has the cells of its type, and one that is gone has none. So where blocks stand for
-- blocks, cells do for cells.
use Rattle.std.proofs.Common.{◌≡◌, ℕ, zero, suc, List, [], ◌∷◌, ◌++◌, length, Option, Some, None, Bool, true, false, ◌⊎◌, inl, inr, refl, sym, ap, ap₂, ◌∙◌, subst}
use Rattle.std.specs.Prelude.{option_and_then, is_some, slice_get, if◌then◌else◌}
use Rattle.std.proofs.lemmas.Bool.{false≢true}
use Rattle.std.proofs.lemmas.List.{length-map}
use Rattle.c_language.proofs.Options.{none_there, some_same}
use Rattle.c_language.specs.declared.expr_type.ExprType.{ExprType}
use Rattle.c_meaning.specs.declared.value.Place.{Place}
use Rattle.c_meaning.specs.declared.value.Value.{Value}
use Rattle.c_meaning.specs.Cells.{Structs, cells, cell_count, cell_number}
use Rattle.c_meaning.specs.Memory.{Kind, Block, Memory, Entered, Allocated, cell_in, changed, filled, with_cell, write, unwritten, with_new, array_of, gone}
use Rattle.c_meaning.specs.Values.{Types, State, whole, leave_block, variable_opened, variable_closed, all_closed}
use Rattle.c_meaning.specs.Acts.{Store, Request, Made, zero_of, stored, with_begun, after, begun_with}
use Rattle.c_meaning.specs.Activations.{Global, Executable, outside, zeros, stores_of, blank, global_opened, global_begun, all_begun, resumed, variables_at}
use Rattle.c_meaning.specs.Steps.{Reaches, Point, machine, beginning}
use Rattle.simulation.specs.Renaming.{World, Names, BlocksStand}
use Rattle.simulation_steps.proofs.Outcomes.{CellsStand}
use Rattle.simulation_steps.proofs.StandingObjects.{both_there}
use Rattle.simulation_steps.proofs.StateRuns.{IsKept, run_kept}

-- ---- one block

pub record IsWhole (structs : Structs) (b : Block) : Type 0 where
  pub cells_are : length b.cells ≡ (if b.is_live then cell_count structs b.shape else 0)

abbrev pub AreWhole : Memory → Type 0
AreWhole m = (n : ℕ) (b : Block) → slice_get m.blocks n ≡ Some b → IsWhole m.structs b

changed_length : {A : Type 0} (f : A → A) (n : ℕ) (xs : List A) → length (changed f n xs) ≡ length xs
changed_length f n [] = refl
changed_length f zero (x ∷ xs) = refl
changed_length f (suc n) (x ∷ xs) = ap suc (changed_length f n xs)

filled_length : (v : Value) (o : Option ℕ) (os : List (Option Value)) → length (filled v o os) ≡ length os
filled_length v None os = refl
filled_length v (Some n) os = changed_length (λ (z : Option Value). Some v) n os

unwritten_whole : (structs : Structs) (k : ExprType) (kind : Kind) → IsWhole structs (unwritten structs k kind)
unwritten_whole structs k kind = record { cells_are = length-map (cells structs k) (λ (t : ExprType). None) }

zeros_whole : (structs : Structs) (k : ExprType) → IsWhole structs (zeros structs k)
zeros_whole structs k = record { cells_are = length-map (cells structs k) (λ (t : ExprType). Some (zero_of t)) }

gone_whole : (structs : Structs) (b : Block) → IsWhole structs (gone b)
gone_whole structs b = record { cells_are = refl }

-- ---- memories

pub new_or_old : {A : Type 0} (y x : A) (xs : List A) (n : ℕ) → slice_get (xs ++ y ∷ []) n ≡ Some x → (slice_get xs n ≡ Some x) ⊎ (y ≡ x)
new_or_old y x [] zero e = inr (some_same e)
new_or_old y x [] (suc n) e = none_there e
new_or_old y x (z ∷ xs) zero e = inl e
new_or_old y x (z ∷ xs) (suc n) e = new_or_old y x xs n e

new_whole : (b : Block) (m : Memory) → AreWhole m → IsWhole m.structs b → AreWhole (with_new b m)
new_whole b m h k n c e = elim (new_or_old b c m.blocks n e) [ inl q ↦ h n c q | inr q ↦ subst (IsWhole m.structs) q k ]

changed_all : (f : Block → Block) (Q : Block → Type 0) → ((b : Block) → Q b → Q (f b)) → (i : ℕ) (bs : List Block) → ((n : ℕ) (b : Block) → slice_get bs n ≡ Some b → Q b) → (n : ℕ) (b : Block) → slice_get (changed f i bs) n ≡ Some b → Q b
changed_all f Q k i [] h n b e = none_there e
changed_all f Q k zero (c ∷ bs) h zero b e = subst Q (some_same e) (k c (h 0 c refl))
changed_all f Q k zero (c ∷ bs) h (suc n) b e = h (suc n) b e
changed_all f Q k (suc i) (c ∷ bs) h zero b e = h 0 b e
changed_all f Q k (suc i) (c ∷ bs) h (suc n) b e = changed_all f Q k i bs (λ j d q. h (suc j) d q) n b e

write_whole : (q : Place) (v : Value) (m : Memory) → AreWhole m → AreWhole (write q v m)
write_whole q v m h =
    changed_all (with_cell m.structs q.path v) (IsWhole m.structs) (λ b k. record { cells_are = filled_length v (cell_number m.structs q.path b.shape) b.cells ∙ k.cells_are }) q.block m.blocks h

stored_whole : (ws : List Store) (m : Memory) → AreWhole m → AreWhole (stored ws m)
stored_whole [] m h = h
stored_whole (w ∷ ws) m h = stored_whole ws (write w.place w.value m) (write_whole w.place w.value m h)

pub left_whole : (o : Option ℕ) (m : Memory) → AreWhole m → AreWhole (leave_block o m)
left_whole None m h = h
left_whole (Some n) m h = changed_all gone (IsWhole m.structs) (λ b k. gone_whole m.structs b) n m.blocks h

pub begun_whole : (o : Option Request) (m : Memory) → AreWhole m → AreWhole (with_begun o m)
begun_whole None m h = h
begun_whole (Some r) m h = new_whole _ m h (unwritten_whole m.structs (array_of r.count r.shape) Allocated)

-- ---- states

abbrev pub StateWhole : State → Type 0
StateWhole s = AreWhole s.memory

opened_whole : (types : Types) (x : ℕ) (s : State) → StateWhole s → StateWhole (variable_opened types x s)
opened_whole types x s h = new_whole _ s.memory h (unwritten_whole s.memory.structs (types.typing.variable x) Entered)

closed_whole : (xs : List ℕ) (s : State) → StateWhole s → StateWhole (all_closed xs s)
closed_whole [] s h = h
closed_whole (x ∷ xs) s h = closed_whole xs (variable_closed x s) (left_whole (s.frame x) s.memory h)

pub after_whole : (i : ℕ) (v : Made) (s : State) → StateWhole s → StateWhole (after i v s)
after_whole i v s h = stored_whole v.stores _ (left_whole v.freed _ (begun_whole v.begun s.memory h))

module _ (p : Executable) where
  -- what the callees' blocks leave is whole
  pub resumed_whole : (g : ℕ) (frame : ℕ → Option ℕ) (returned : Option Value) (s : State) → StateWhole s → StateWhole (resumed p g frame returned s)
  resumed_whole g frame returned s h = closed_whole (variables_at p g) s h

  all_kept : IsKept p StateWhole
  all_kept = record {
    opened = opened_whole;
    closed = closed_whole;
    after_act = after_whole;
    fresh_too = λ s h. h;
    parameter = λ x s v h. write_whole (whole (length s.memory.blocks)) v _ (opened_whole (outside p) x s h);
    resumed_too = resumed_whole;
  }

  global_whole : (g : Global) (s : State) → StateWhole s → StateWhole (global_begun p g s)
  global_whole g s h =
      let opened = global_opened p g.variable s in
      stored_whole (stores_of (begun_with (outside p) g.variable g.init opened)) opened.memory (new_whole _ s.memory h (zeros_whole s.memory.structs (p.typing.variable g.variable)))

  globals_whole : (gs : List Global) (s : State) → StateWhole s → StateWhole (all_begun p gs s)
  globals_whole [] s h = h
  globals_whole (g ∷ gs) s h = globals_whole gs (global_begun p g s) (global_whole g s h)

  -- at each point of a run
  pub run_whole : (input : List ℕ) (x : Point) → Reaches (machine p) (beginning p input) x → StateWhole x.state
  run_whole input x r = run_kept p StateWhole all_kept input x (globals_whole p.globals (blank p) (λ n b e. none_there e)) r

-- ---- cells

same_there : {A B : Type 0} (xs : List A) (ys : List B) (n : ℕ) → length xs ≡ length ys → is_some (slice_get xs n) ≡ true → is_some (slice_get ys n) ≡ true
same_there [] ys n e h = absurd (false≢true h)
same_there (x ∷ xs) [] n e h = cc
same_there (x ∷ xs) (y ∷ ys) zero e h = refl
same_there (x ∷ xs) (y ∷ ys) (suc n) e h = let same : length xs ≡ length ys = cc in same_there xs ys n same h

number_there : {A B : Type 0} (xs : List A) (ys : List B) (o : Option ℕ) → length xs ≡ length ys → is_some (option_and_then (slice_get xs) o) ≡ true → is_some (option_and_then (slice_get ys) o) ≡ true
number_there xs ys None e h = absurd (false≢true h)
number_there xs ys (Some n) e h = same_there xs ys n e h

none_in : {A : Type 0} (xs : List A) (o : Option ℕ) → length xs ≡ 0 → is_some (option_and_then (slice_get xs) o) ≡ true → ⊥
none_in xs None e h = false≢true h
none_in [] (Some n) e h = false≢true h
none_in (x ∷ xs) (Some n) e h = cc

module _ (names : Names) (w : World) (s t : State) (here : StateWhole s) (there : StateWhole t) (blocks : BlocksStand names w s t) where
  -- both are live, where a cell of the first is there
  same_cells : (b d : Block) (o : Option ℕ) (live live_there : Bool) → (live_there ≡ false → live ≡ false) → length b.cells ≡ (if live then cell_count s.memory.structs b.shape else 0) → length d.cells ≡ (if live_there then cell_count t.memory.structs d.shape else 0) → d.shape ≡ b.shape → is_some (option_and_then (slice_get b.cells) o) ≡ true → is_some (option_and_then (slice_get d.cells) o) ≡ true
  same_cells b d o false live_there gone p q shape h = absurd (none_in b.cells o p h)
  same_cells b d o true false gone p q shape h = absurd (false≢true (sym (gone refl)))
  same_cells b d o true true gone p q shape h =
      number_there b.cells d.cells o (p ∙ (ap₂ cell_count blocks.structs_are (sym shape) ∙ sym q)) h

  pub cells_stand : CellsStand w s t
  cells_stand q c e live =
      let k = both_there names w s t blocks q.block c e in
      let number = cell_number s.memory.structs q.path k.block.shape in
      let first : is_some (option_and_then (slice_get k.block.cells) number) ≡ true = sym (ap (λ (o : Option Block). is_some (option_and_then (cell_in s.memory.structs q.path) o)) k.block_is) ∙ live in
      let second = same_cells k.block k.there number k.block.is_live k.there.is_live k.gone (here q.block k.block k.block_is).cells_are (there c k.there k.there_is).cells_are k.shape_is first in
      ap (λ (o : Option Block). is_some (option_and_then (cell_in t.memory.structs q.path) o)) k.there_is ∙ (ap₂ (λ ss (shape : ExprType). is_some (option_and_then (slice_get k.there.cells) (cell_number ss q.path shape))) (sym blocks.structs_are) k.shape_is ∙ second)
