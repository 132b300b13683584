-- In a program whose struct types stand in order each cell has one path; so a live cell has one place, and one location.
use Rattle.std.proofs.Common.{◌≡◌, ℕ, ◌+◌, List, Option, Some, None, true, ◌⊎◌, inl, inr, refl, sym, ap, ap₂, ◌∙◌, subst, arith}
use Rattle.std.proofs.lemmas.Bool.{false≢true}
use Rattle.std.proofs.lemmas.Bool.Decides.{eqb_tells}
use Rattle.std.specs.Prelude.{is_some, slice_get}
use Rattle.c_language.proofs.Options.{none_there, some_same, then_there}
use Rattle.c_tree.specs.declared.program.Member.{Member}
use Rattle.c_tree.specs.declared.program.Program.{Program}
use Rattle.c_language.specs.TreeTypes.{shape_of, members_of}
use Rattle.c_meaning.specs.declared.value.Hop.{Hop}
use Rattle.c_meaning.specs.declared.value.Place.{Place}
use Rattle.c_meaning.specs.declared.value.Value.{Value}
use Rattle.c_meaning.specs.Cells.{structs_of, cell_number}
use Rattle.c_meaning.specs.Memory.{Block, Memory, cell_in, cell, is_cell}
use Rattle.dep_model.specs.LocationLists.{is_before, AreStructsInOrder}
use Rattle.dep_model.proofs.Membership.{IsIn, contains_of_in, of_map}
use Rattle.run_facts.specs.CellLocations.{location_of}
use Rattle.run_facts.specs.KeptCells.{IsSameCell}
use Rattle.run_facts.specs.Laws.{CellsHaveOnePath}
use Rattle.run_facts.proofs.CellPaths.{one_path}
use Rattle.run_facts.proofs.StandingCells.{AreOrdered}
use Rattle.run_facts.proofs.Subobjects.{member_types}

-- ---- live cells

pub there_of_some : {A : Type 0} (o : Option A) → is_some o ≡ true → (x : A) × (o ≡ Some x)
there_of_some None h = absurd (false≢true h)
there_of_some (Some x) h = (x, refl)

-- a live cell: its block, its number in the block, and what it holds
pub record IsLiveCell (m : Memory) (q : Place) : Type 0 where
  pub block : Block
  pub block_is : slice_get m.blocks q.block ≡ Some block
  pub number : ℕ
  pub number_is : cell_number m.structs q.path block.shape ≡ Some number
  pub held : Option Value
  pub held_is : slice_get block.cells number ≡ Some held

pub cell_there : (m : Memory) (q : Place) (c : Option Value) → cell m q ≡ Some c → IsLiveCell m q
cell_there m q c e =
    let a = then_there (cell_in m.structs q.path) (slice_get m.blocks q.block) c e in
    let n = then_there (slice_get a.value.cells) (cell_number m.structs q.path a.value.shape) c a.same in
    record { block = a.value; block_is = a.there; number = n.value; number_is = n.there; held = c; held_is = n.same }

pub live_cell : (m : Memory) (q : Place) → is_cell m q ≡ true → IsLiveCell m q
live_cell m q live = let c = there_of_some (cell m q) live in cell_there m q c.0 c.1

-- ---- whether two places are one cell

abbrev IsOrIsnt : Type 0 → Type 0
IsOrIsnt P = P ⊎ (P → ⊥)

same_number : (a b : Option ℕ) → IsOrIsnt (a ≡ b)
same_number None None = inl refl
same_number None (Some n) = inr (λ e. none_there e)
same_number (Some m) None = inr (λ e. none_there (sym e))
same_number (Some m) (Some n) = elim (eqb_tells m n) [ inl w ↦ inl (ap Some w.1) | inr w ↦ inr (λ e. w.1 (some_same e)) ]

pub same_cell : (m : Memory) (q r : Place) → IsOrIsnt (IsSameCell m q r)
same_cell m q r =
    elim (eqb_tells q.block r.block) [
      | inl w ↦ by_block w.1 (slice_get m.blocks q.block) refl
      | inr w ↦ inr (λ h. w.1 h.block_is)
    ]
  where
    by_block : q.block ≡ r.block → (o : Option Block) → slice_get m.blocks q.block ≡ o → IsOrIsnt (IsSameCell m q r)
    by_block e None is = inl (record { block_is = e; numbers_are = λ b at. none_there (sym is ∙ at) })
    by_block e (Some b) is =
        elim (same_number (cell_number m.structs q.path b.shape) (cell_number m.structs r.path b.shape)) [
          | inl same ↦ inl (record { block_is = e; numbers_are = λ c at. subst (λ (d : Block). cell_number m.structs q.path d.shape ≡ cell_number m.structs r.path d.shape) (some_same (sym is ∙ at)) same })
          | inr other ↦ inr (λ h. other (h.numbers_are b is))
        ]

pub same_back : (m : Memory) (q r : Place) → IsSameCell m q r → IsSameCell m r q
same_back m q r same = record {
  block_is = sym same.block_is;
  numbers_are = λ b is. sym (same.numbers_are b (ap (slice_get m.blocks) same.block_is ∙ is));
}

abbrev placed : ℕ → List Hop → Place
placed b path = record { block = b; path = path }

module _ (p : Program) (order : AreStructsInOrder p) where
  pub structs_ordered : AreOrdered 0 (structs_of p)
  structs_ordered k t i =
      let m = of_map (λ (m : Member). shape_of m.shape) (members_of p k) t (subst (λ ts. IsIn ts t) (member_types p order k) i) in
      let none : k ≡ 0 + k = omega arith in
      subst (λ u. is_before (0 + k) u ≡ true) m.2 (subst (λ n. is_before n (shape_of m.0.shape) ≡ true) none (order k m.0 (contains_of_in (members_of p k) m.0 m.1)))

  -- a live cell has one place
  pub one_place : (m : Memory) (q r : Place) → m.structs ≡ structs_of p → is_cell m q ≡ true → IsSameCell m q r → q ≡ r
  one_place m q r structs live same =
      let c = live_cell m q live in
      let first : cell_number (structs_of p) q.path c.block.shape ≡ Some c.number = subst (λ ss. cell_number ss q.path c.block.shape ≡ Some c.number) structs c.number_is in
      let second : cell_number (structs_of p) r.path c.block.shape ≡ Some c.number = subst (λ ss. cell_number ss r.path c.block.shape ≡ Some c.number) structs (sym (same.numbers_are c.block c.block_is) ∙ c.number_is) in
      ap₂ placed same.block_is (one_path (structs_of p) structs_ordered q.path r.path c.block.shape c.number first second)

pub place_itself : (m : Memory) (q r : Place) → q ≡ r → IsSameCell m q r
place_itself m q r e = subst (IsSameCell m q) e (record { block_is = refl; numbers_are = λ b is. refl })

pub cells_have_one_path : CellsHaveOnePath
cells_have_one_path p order = record {
  paths = λ t a b n e k. one_path (structs_of p) (structs_ordered p order) a b t n e k;
  places = λ m q r structs live other. (λ same. one_place p order m q r structs live same, λ is. place_itself m q r is);
  locations = λ m origins q r structs live other same. ap (location_of origins) (one_place p order m q r structs live same);
}
