-- What is said of a value stays true where a state goes on: blocks keep their types and what made them, and others may begin.
use Rattle.std.proofs.Common.{◌≡◌, ℕ, zero, suc, List, [], ◌∷◌, ◌++◌, Option, Some, None, refl, ap, ◌∙◌}
use Rattle.std.specs.Prelude.{option_and_then, slice_get}
use Rattle.c_language.proofs.Options.{none_there, some_same}
use Rattle.c_tree.specs.declared.program.Program.{Program}
use Rattle.c_language.specs.declared.expr_type.ExprType.{ExprType}
use Rattle.c_meaning.specs.declared.value.Place.{Place}
use Rattle.c_meaning.specs.declared.value.Value.{Value}
use Rattle.c_meaning.specs.declared.value.Value.TheVariants.{Number, Null, To}
use Rattle.c_meaning.specs.Cells.{Structs}
use Rattle.c_meaning.specs.Memory.{Block, Memory, changed, with_cell, write, gone}
use Rattle.c_meaning.specs.Pointers.{type_at, whole_of}
use Rattle.c_meaning.specs.Values.{Origin, State, leave_block}
use Rattle.c_meaning.specs.Acts.{Store, stored}
use Rattle.dep_model.specs.Denoted.{Places, TargetsOf}
use Rattle.dep_model.specs.DoingEffects.{result_of}
use Rattle.run_facts.specs.TypedStates.{IsValue, IsResult}
use Rattle.run_facts.proofs.Subobjects.{path_type, type_at_is, at_place}

-- each block keeps its type
abbrev pub KeepShapes : List Block → List Block → Type 0
KeepShapes bs cs = (n : ℕ) (b : Block) → slice_get bs n ≡ Some b → (c : Block) × ((slice_get cs n ≡ Some c) × (c.shape ≡ b.shape))

pub record IsLater (s t : State) : Type 0 where
  pub structs_are : t.memory.structs ≡ s.memory.structs
  pub shapes : KeepShapes s.memory.blocks t.memory.blocks
  pub origins : (n : ℕ) (o : Origin) → slice_get s.origins n ≡ Some o → slice_get t.origins n ≡ Some o

-- ---- blocks

pub shapes_same : (bs : List Block) → KeepShapes bs bs
shapes_same bs n b e = (b, (e, refl))

pub shapes_on : (bs cs ds : List Block) → KeepShapes bs cs → KeepShapes cs ds → KeepShapes bs ds
shapes_on bs cs ds h k n b e =
    let c = h n b e in
    let d = k n c.0 c.1.0 in
    (d.0, (d.1.0, d.1.1 ∙ c.1.1))

pub shapes_changed : (f : Block → Block) → ((b : Block) → (f b).shape ≡ b.shape) → (i : ℕ) (bs : List Block) → KeepShapes bs (changed f i bs)
shapes_changed f same i [] n b e = none_there e
shapes_changed f same zero (c ∷ bs) zero b e = (f c, (refl, same c ∙ ap (λ (k : Block). k.shape) (some_same e)))
shapes_changed f same zero (c ∷ bs) (suc n) b e = (b, (e, refl))
shapes_changed f same (suc i) (c ∷ bs) zero b e = (c, (refl, ap (λ (k : Block). k.shape) (some_same e)))
shapes_changed f same (suc i) (c ∷ bs) (suc n) b e = shapes_changed f same i bs n b e

pub shapes_more : (bs : List Block) (more : List Block) → KeepShapes bs (bs ++ more)
shapes_more [] more n b e = none_there e
shapes_more (c ∷ bs) more zero b e = (c, (refl, ap (λ (k : Block). k.shape) (some_same e)))
shapes_more (c ∷ bs) more (suc n) b e = shapes_more bs more n b e

pub shapes_written : (q : Place) (v : Value) (m : Memory) → KeepShapes m.blocks (write q v m).blocks
shapes_written q v m = shapes_changed (with_cell m.structs q.path v) (λ b. refl) q.block m.blocks

pub shapes_left : (o : Option ℕ) (m : Memory) → KeepShapes m.blocks (leave_block o m).blocks
shapes_left None m = shapes_same m.blocks
shapes_left (Some n) m = shapes_changed gone (λ b. refl) n m.blocks

pub shapes_stored : (ws : List Store) (m : Memory) → KeepShapes m.blocks (stored ws m).blocks
shapes_stored [] m = shapes_same m.blocks
shapes_stored (w ∷ ws) m =
    let first = write w.place w.value m in
    shapes_on m.blocks first.blocks (stored ws first).blocks (shapes_written w.place w.value m) (shapes_stored ws first)

-- ---- states

pub later_on : (s t u : State) → IsLater s t → IsLater t u → IsLater s u
later_on s t u h k =
    record { structs_are = k.structs_are ∙ h.structs_are; shapes = shapes_on s.memory.blocks t.memory.blocks u.memory.blocks h.shapes k.shapes; origins = λ n o e. k.origins n o (h.origins n o e) }

module _ (s t : State) (h : IsLater s t) where
  pub type_later : (q : Place) (u : ExprType) → type_at s.memory q ≡ Some u → type_at t.memory q ≡ Some u
  type_later q u e =
      let a = at_place s.memory q u e in
      let c = h.shapes q.block a.block a.block_is in
      type_at_is t.memory q
      ∙ (ap (option_and_then (λ (b : Block). path_type t.memory.structs q.path b.shape)) c.1.0
      ∙ (ap (λ (z : Structs). path_type z q.path c.0.shape) h.structs_are ∙ (ap (path_type s.memory.structs q.path) c.1.1 ∙ a.type_is)))

  module _ (p : Program) where
    pub value_later : (u : ExprType) (targets : Places) (v : Value) → IsValue p s u targets v → IsValue p t u targets v
    value_later u targets (Number z) k = k
    value_later u targets Null k = k
    value_later u targets (To q) k =
        record { whole = k.whole; whole_is = type_later (whole_of q) k.whole k.whole_is; target_is = k.target_is; origin = k.origin; origin_is = h.origins q.block k.origin k.origin_is; among = k.among; seen = k.seen }

    -- what a function has returned, also one that waits
    pub result_later : (points : TargetsOf) (f : ℕ) (result : Option ExprType) (o : Option Value) → IsResult p points s f result o → IsResult p points t f result o
    result_later points f result o k v e = let r = k v e in (r.0, (r.1.0, value_later r.0 (points (result_of f)) v r.1.1))
