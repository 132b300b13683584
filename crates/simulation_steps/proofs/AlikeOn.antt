-- What is alike at a location goes on so where a program alone changes nothing of it: where blocks begin or go, where a call begins, and
-- where its callee's blocks are gone.
use Rattle.std.proofs.Common.{◌≡◌, ℕ, ◌<◌, ◌==◌, List, [], ◌∷◌, length, Some, None, Bool, true, false, if◌then◌else◌, inl, inr, refl, sym, ap, ◌∙◌, subst, arith}
use Rattle.std.specs.Prelude.{option_map, option_and_then, is_some, slice_get}
use Rattle.c_language.proofs.Options.{none_there, some_same}
use Rattle.c_tree.specs.declared.expr.Expr.{Expr}
use Rattle.c_meaning.specs.declared.value.Place.{Place}
use Rattle.c_meaning.specs.Memory.{Block, held, cell, is_cell, read, unwritten, Entered}
use Rattle.c_meaning.specs.Values.{Types, Origin, State, variable_opened, variable_closed, all_closed}
use Rattle.c_meaning.specs.Activations.{Executable, variables_at, called, resumed}
use Rattle.c_meaning.specs.Steps.{Waiting}
use Rattle.dep_model.specs.declared.location.Location.{Location}
use Rattle.dep_model.specs.declared.location.Root.TheVariants.{Variable}
use Rattle.dep_model.specs.DoingEffects.{the_input, result_of}
use Rattle.run_facts.specs.CellLocations.{location_in, location_of}
use Rattle.run_facts.specs.Counting.{Counts}
use Rattle.run_facts.proofs.Blocks.{get_more}
use Rattle.run_facts.proofs.KeptMemories.{leave_keeps, new_keeps}
use Rattle.run_facts.proofs.KeptStates.{called_keeps}
use Rattle.simulation.specs.Renaming.{World, Stands, cell_at, AlikeCell, Names, StandsForOne, BlocksStand, AlikeAt}
use Rattle.simulation.specs.Settings.{seen, seen_from}
use Rattle.simulation_steps.proofs.GrownLists.{within, there_at}
use Rattle.simulation_steps.proofs.LeftAlone.{CallsLeaveCallers, ReturnsLeaveCallers, MovesLeaveAlike}
use Rattle.simulation_steps.proofs.Outlines.{KeepsOutlines}
use Rattle.simulation_steps.proofs.KeptOutlines.{keeps_opened, keeps_closed, keeps_called, keeps_resumed}

-- ---- blocks of the original for which blocks stand

module _ (names : Names) (outside : Location → Bool) (w : World) where
  -- a block for which one stands was there, with what made it
  pub record IsOld (m : State) (b : ℕ) : Type 0 where
    pub low : b < length m.memory.blocks
    pub origin : Origin
    pub origin_is : slice_get m.origins b ≡ Some origin

  pub old_block : (m n : State) (b c : ℕ) → BlocksStand names w m n → Stands w b c → IsOld m b
  old_block m n b c h e =
      let low = within w c b e in
      let count = h.count_is in
      let there = there_at n.memory.blocks c (omega (arith, low, count)) in
      let one = h.each c there.0 there.1 in
      let same : one.number ≡ b = some_same (sym one.stands ∙ e) in
      record {
        low = subst (λ k. k < length m.memory.blocks) same (within m.memory.blocks one.number one.block one.block_is);
        origin = one.origin;
        origin_is = subst (λ k. slice_get m.origins k ≡ Some one.origin) same one.origin_is;
      }

  -- what a program alone does from one state to another leaves what is seen at a location
  pub record Leaves (l : Location) (m t : State) : Type 0 where
    pub live : (q : Place) → q.block < length m.memory.blocks → is_cell t.memory q ≡ true → is_cell m.memory q ≡ true
    pub frames : (x b : ℕ) → l.root ≡ Variable x → b < length m.memory.blocks → t.frame x ≡ Some b → m.frame x ≡ Some b
    pub cells :
        (q : Place) → q.block < length m.memory.blocks → is_cell t.memory q ≡ true → location_of m.origins q ≡ Some l → Counts outside l m q.block
        → read t.memory q ≡ read m.memory q
    pub input : l ≡ the_input → t.unread ≡ m.unread
    pub result : (f : ℕ) → l ≡ result_of f → t.returned ≡ m.returned

  pub alike_on : (l : Location) (m t n : State) → BlocksStand names w m n → KeepsOutlines m t → Leaves l m t → AlikeAt outside w l m n → AlikeAt outside w l t n
  alike_on l m t n stand keeps leaves h = record {
    cells = λ b c path e counts live at.
        let old = old_block m n b c stand e in
        let q = cell_at b path in
        let after_ : slice_get t.origins b ≡ Some old.origin = subst (λ os. slice_get os b ≡ Some old.origin) (sym keeps.origins_are) (get_more m.origins keeps.new b old.origin old.origin_is) in
        let before_at : location_of m.origins q ≡ Some l = ap (option_map (λ (o : Origin). location_in o path)) (old.origin_is ∙ sym after_) ∙ at in
        let counted : Counts outside l m b = counts_before old.low counts in
        subst (λ v. AlikeCell w v (read n.memory (cell_at c path))) (sym (leaves.cells q old.low live before_at counted)) (h.cells b c path e counted (leaves.live q old.low live) before_at);
    input = λ e. leaves.input e ∙ h.input e;
    result = λ f e. subst (λ v. AlikeCell w v n.returned) (sym (leaves.result f e)) (h.result f e);
  }
    where
      counts_before : {b : ℕ} → b < length m.memory.blocks → Counts outside l t b → Counts outside l m b
      counts_before low (inl out) = inl out
      counts_before {b = b} low (inr k) = inr (k.0, k.1, leaves.frames k.0 b k.1 low k.2)

  -- ---- a call begins

  pub call_leaves : (p : Executable) (f g : ℕ) (args : List Expr) (s c : State) (l : Location) → called p f g args s ≡ Some c → Leaves l s (seen_from s c)
  call_leaves p f g args s c l e =
      let k = called_keeps p f g args s c e in
      record {
        live = λ q lt live. sym (ap is_some (k.cells q lt)) ∙ live;
        frames = λ x b root lt named. named;
        cells = λ q lt live at counts. ap (option_and_then held) (k.cells q lt);
        input = λ i. k.input;
        result = λ i r. refl;
      }

  -- ---- blocks that go

  closed_cells : (xs : List ℕ) (s : State) (q : Place) → is_cell (all_closed xs s).memory q ≡ true → cell (all_closed xs s).memory q ≡ cell s.memory q
  closed_cells [] s q live = refl
  closed_cells (x ∷ xs) s q live =
      let rest = closed_cells xs (variable_closed x s) q live in
      rest ∙ leave_keeps (s.frame x) s.memory q (sym (ap is_some rest) ∙ live)

  closed_unread : (xs : List ℕ) (s : State) → (all_closed xs s).unread ≡ s.unread
  closed_unread [] s = refl
  closed_unread (x ∷ xs) s = closed_unread xs (variable_closed x s)

  closed_returned : (xs : List ℕ) (s : State) → (all_closed xs s).returned ≡ s.returned
  closed_returned [] s = refl
  closed_returned (x ∷ xs) s = closed_returned xs (variable_closed x s)

  closed_frame : (xs : List ℕ) (s : State) (y b : ℕ) → (all_closed xs s).frame y ≡ Some b → s.frame y ≡ Some b
  closed_frame [] s y b e = e
  closed_frame (x ∷ xs) s y b e = by_name (x == y) (closed_frame xs (variable_closed x s) y b e)
    where
      by_name : (same : Bool) → (if same then None else s.frame y) ≡ Some b → s.frame y ≡ Some b
      by_name true k = none_there k
      by_name false k = k

  pub closed_leaves : (xs : List ℕ) (s : State) (l : Location) → Leaves l s (all_closed xs s)
  closed_leaves xs s l = record {
    live = λ q lt live. sym (ap is_some (closed_cells xs s q live)) ∙ live;
    frames = λ x b root lt named. closed_frame xs s x b named;
    cells = λ q lt live at counts. ap (option_and_then held) (closed_cells xs s q live);
    input = λ i. closed_unread xs s;
    result = λ f r. closed_returned xs s;
  }

  pub return_leaves : (p : Executable) (g : ℕ) (a : Waiting) (s : State) (l : Location) → Leaves l (seen a s) (resumed p g a.frame a.returned s)
  return_leaves p g a s l = record {
    live = λ q lt live. sym (ap is_some (closed_cells (variables_at p g) s q live)) ∙ live;
    frames = λ x b root lt named. named;
    cells = λ q lt live at counts. ap (option_and_then held) (closed_cells (variables_at p g) s q live);
    input = λ i. closed_unread (variables_at p g) s;
    result = λ f r. refl;
  }

  -- ---- a variable begins

  pub opened_leaves : (types : Types) (x : ℕ) (s : State) (l : Location) → Leaves l s (variable_opened types x s)
  opened_leaves types x s l = record {
    live = λ q lt live. sym (ap is_some (new_keeps (unwritten s.memory.structs (types.typing.variable x) Entered) s.memory q lt)) ∙ live;
    frames = λ y b root lt named. by_name y b lt (x == y) named;
    cells = λ q lt live at counts. ap (option_and_then held) (new_keeps (unwritten s.memory.structs (types.typing.variable x) Entered) s.memory q lt);
    input = λ i. refl;
    result = λ f r. refl;
  }
    where
      by_name : (y b : ℕ) → b < length s.memory.blocks → (same : Bool) → (if same then Some (length s.memory.blocks) else s.frame y) ≡ Some b → s.frame y ≡ Some b
      by_name y b lt true k = let e = some_same k in absurd (omega (arith, e, lt))
      by_name y b lt false k = k

pub calls_leave_callers : CallsLeaveCallers
calls_leave_callers names outside w p f g args s c n l e stand h =
    let k = keeps_called p f g args s c e in
    alike_on names outside w l s (seen_from s c) n stand (record { structs_are = k.structs_are; each = k.each; new = k.new; origins_are = k.origins_are }) (call_leaves names outside w p f g args s c l e) h

pub returns_leave_callers : ReturnsLeaveCallers
returns_leave_callers names outside w p g a s n l stand h =
    let k = keeps_resumed p g a.frame a.returned s in
    alike_on names outside w l (seen a s) (resumed p g a.frame a.returned s) n (record { structs_are = stand.structs_are; count_is = stand.count_is; each = λ c there e. seen_one names w a s n c there (stand.each c there e); one_to_one = stand.one_to_one }) (record { structs_are = k.structs_are; each = k.each; new = k.new; origins_are = k.origins_are }) (return_leaves names outside w p g a s l) h
  where
    seen_one : (names : Names) (w : World) (a : Waiting) (s n : State) (c : ℕ) (there : Block) → StandsForOne names w s n c there → StandsForOne names w (seen a s) n c there
    seen_one names w a s n c there o = record {
      number = o.number;
      stands = o.stands;
      block = o.block;
      block_is = o.block_is;
      shape_is = o.shape_is;
      kind_is = o.kind_is;
      origin = o.origin;
      origin_there = o.origin_there;
      origin_is = o.origin_is;
      origin_there_is = o.origin_there_is;
      origins_are = o.origins_are;
      gone = o.gone;
    }

pub moves_leave_alike : MovesLeaveAlike
moves_leave_alike names outside w types s n l stand h = (
  λ x. alike_on names outside w l s (variable_opened types x s) n stand (keeps_opened types x s) (opened_leaves names outside w types x s l) h,
  λ xs. alike_on names outside w l s (all_closed xs s) n stand (keeps_closed xs s) (closed_leaves names outside w xs s l) h,
)
