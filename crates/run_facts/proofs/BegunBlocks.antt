-- A state in which a block begins is typed, whatever made the block and whatever it holds, where what it holds is of its types.
use Rattle.std.proofs.Common.{◌≡◌, ℕ, zero, suc, ◌<◌, List, [], ◌∷◌, ◌++◌, length, map, Option, Some, None, ◌⊎◌, inl, inr, refl, sym, ap, ◌∙◌, subst, arith}
use Rattle.std.specs.Prelude.{option_and_then, slice_get}
use Rattle.c_language.proofs.Options.{none_there, some_same, then_there}
use Rattle.c_tree.specs.declared.program.Program.{Program}
use Rattle.c_language.specs.declared.expr_type.ExprType.{ExprType}
use Rattle.c_meaning.specs.declared.value.Hop.{Hop}
use Rattle.c_meaning.specs.declared.value.Place.{Place}
use Rattle.c_meaning.specs.declared.value.Value.{Value}
use Rattle.c_meaning.specs.Cells.{Structs, cells, cell_number}
use Rattle.c_meaning.specs.Memory.{Kind, Block, held, cell_in, cell, read, unwritten, with_new}
use Rattle.c_meaning.specs.Pointers.{type_at}
use Rattle.c_meaning.specs.Values.{Origin, OfVariable, State}
use Rattle.c_meaning.proofs.Origins.{both_longer}
use Rattle.dep_model.specs.Denoted.{TargetsOf}
use Rattle.run_facts.specs.CellLocations.{location_in}
use Rattle.run_facts.specs.TypedStates.{IsBlockOf, IsValue, IsTypedState}
use Rattle.run_facts.proofs.Subobjects.{path_type, type_at_is, at_place}
use Rattle.run_facts.proofs.LaterStates.{IsLater, shapes_more, value_later}

-- ---- the last of a list

pub front_or_last : {A : Type 0} (xs : List A) (y z : A) (n : ℕ) → slice_get (xs ++ y ∷ []) n ≡ Some z → ((slice_get xs n ≡ Some z) × (n < length xs)) ⊎ ((n ≡ length xs) × (y ≡ z))
front_or_last [] y z zero e = inr (refl, some_same e)
front_or_last [] y z (suc n) e = none_there e
front_or_last (x ∷ xs) y z zero e = inl (e, omega arith)
front_or_last (x ∷ xs) y z (suc n) e = elim (front_or_last xs y z n e) [ inl h ↦ inl (h.0, omega (arith, h.1)) | inr h ↦ inr (ap suc h.0, h.1) ]

pub front_stays : {A : Type 0} (xs ys : List A) (n : ℕ) (x : A) → slice_get xs n ≡ Some x → slice_get (xs ++ ys) n ≡ Some x
front_stays [] ys n x e = none_there e
front_stays (y ∷ xs) ys zero x e = e
front_stays (y ∷ xs) ys (suc n) x e = front_stays xs ys n x e

abbrev empty : ExprType → Option Value
empty t = None

-- nothing is written in a block that begins so
unwritten_none : (ts : List ExprType) (n : ℕ) (c : Option Value) → slice_get (map empty ts) n ≡ Some c → c ≡ None
unwritten_none [] n c e = none_there e
unwritten_none (t ∷ ts) zero c e = sym (some_same e)
unwritten_none (t ∷ ts) (suc n) c e = unwritten_none ts n c e

pub unwritten_holds : {A : Type 0} (structs : Structs) (shape : ExprType) (kind : Kind) (path : List Hop) (v : Value) → cell_in structs path (unwritten structs shape kind) ≡ Some (Some v) → A
unwritten_holds structs shape kind path v e =
    let n = then_there (slice_get (map empty (cells structs shape))) (cell_number structs path shape) (Some v) e in
    none_there (sym (unwritten_none (cells structs shape) n.value (Some v) n.same))

module _ (p : Program) (points : TargetsOf) (s : State) (typed : IsTypedState p points s) (frame : ℕ → Option ℕ) (o : Origin) (b : Block) where
  abbrev begun : State
  begun = record s { frame = frame; memory = with_new b s.memory; origins = s.origins ++ o ∷ [] }

  pub begun_later : IsLater s begun
  begun_later = record { structs_are = refl; shapes = shapes_more s.memory.blocks (b ∷ []); origins = λ n k e. front_stays s.origins (o ∷ []) n k e }

  -- what the block holds
  abbrev pub HoldsTyped : Type 0
  HoldsTyped =
      (path : List Hop) (v : Value) (t : ExprType) → cell_in s.memory.structs path b ≡ Some (Some v) → path_type s.memory.structs path b.shape ≡ Some t
      → IsValue p begun t (points (location_in o path)) v

  blocks_typed : IsBlockOf p o b.shape → (n : ℕ) (k : Origin) (c : Block) → slice_get (s.origins ++ o ∷ []) n ≡ Some k → slice_get (s.memory.blocks ++ b ∷ []) n ≡ Some c → IsBlockOf p k c.shape
  blocks_typed h n k c made there =
      elim (front_or_last s.origins o k n made) [
        | inl x ↦ elim (front_or_last s.memory.blocks b c n there) [
          | inl y ↦ typed.blocks n k c x.0 y.0
          | inr y ↦ absurd (omega (arith, x.1, y.0, typed.tracked))
        ]
        | inr x ↦ elim (front_or_last s.memory.blocks b c n there) [
          | inl y ↦ absurd (omega (arith, x.0, y.1, typed.tracked))
          | inr y ↦ subst (λ (r : Origin). IsBlockOf p r c.shape) x.1 (subst (λ (d : Block). IsBlockOf p o d.shape) y.1 h)
        ]
      ]

  cells_typed : HoldsTyped → (q : Place) (v : Value) (t : ExprType) (k : Origin) → read begun.memory q ≡ Some v → type_at begun.memory q ≡ Some t → slice_get (s.origins ++ o ∷ []) q.block ≡ Some k → IsValue p begun t (points (location_in k q.path)) v
  cells_typed h q v t k r e made =
      let c = then_there held (cell begun.memory q) v r in
      let d = then_there (cell_in s.memory.structs q.path) (slice_get (s.memory.blocks ++ b ∷ []) q.block) c.value c.there in
      let a = at_place begun.memory q t e in
      let same : a.block ≡ d.value = some_same (sym a.block_is ∙ d.there) in
      let type : path_type s.memory.structs q.path d.value.shape ≡ Some t = subst (λ (z : Block). path_type s.memory.structs q.path z.shape ≡ Some t) same a.type_is in
      elim (front_or_last s.memory.blocks b d.value q.block d.there) [
        | inl y ↦ elim (front_or_last s.origins o k q.block made) [
          | inl x ↦
              let old : read s.memory q ≡ Some v = ap (λ (z : Option Block). option_and_then held (option_and_then (cell_in s.memory.structs q.path) z)) y.0 ∙ (ap (option_and_then held) d.same ∙ c.same) in
              let at_ : type_at s.memory q ≡ Some t = type_at_is s.memory q ∙ (ap (option_and_then (λ (z : Block). path_type s.memory.structs q.path z.shape)) y.0 ∙ type) in
              value_later s begun begun_later p t (points (location_in k q.path)) v (typed.cells q v t k old at_ x.0)
          | inr x ↦ absurd (omega (arith, x.0, y.1, typed.tracked))
        ]
        | inr y ↦ elim (front_or_last s.origins o k q.block made) [
          | inl x ↦ absurd (omega (arith, x.1, y.0, typed.tracked))
          | inr x ↦
              let here : cell_in s.memory.structs q.path b ≡ Some (Some v) = ap (cell_in s.memory.structs q.path) y.1 ∙ (d.same ∙ ap Some c.same) in
              subst (λ (r : Origin). IsValue p begun t (points (location_in r q.path)) v) x.1 (h q.path v t here (subst (λ (z : Block). path_type s.memory.structs q.path z.shape ≡ Some t) (sym y.1) type))
        ]
      ]

  pub typed_begun : IsBlockOf p o b.shape → HoldsTyped → ((x n : ℕ) → frame x ≡ Some n → slice_get (s.origins ++ o ∷ []) n ≡ Some (OfVariable x)) → IsTypedState p points begun
  typed_begun h holds named = record {
    structs_are = typed.structs_are;
    tracked = both_longer s.origins s.memory.blocks o b typed.tracked;
    named = named;
    blocks = blocks_typed h;
    cells = cells_typed holds;
  }
