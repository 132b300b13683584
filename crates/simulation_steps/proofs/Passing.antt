-- Arguments are passed to parameters in a program and in its slice: the blocks of those that stay begin in both, and hold alike values.
use Rattle.std.proofs.Common.{◌≡◌, ℕ, ℤ, ◌<◌, List, [], length, map, Option, Some, None, Bool, true, false, inl, inr, refl, sym, ap, ◌∙◌, subst, arith}
use Rattle.std.specs.Prelude.{option_map, option_and_then, slice_get}
use Rattle.std.proofs.lemmas.Bool.Decides.{eqb_tells}
use Rattle.c_language.proofs.Options.{none_there, some_same}
use Rattle.c_language.specs.declared.expr_type.ExprType.{ExprType}
use Rattle.c_arith.specs.declared.int_type.IntType.{IntType}
use Rattle.c_language.specs.ExprTypes.{integer_of, is_pointer}
use Rattle.c_meaning.specs.declared.value.Hop.{Hop}
use Rattle.c_meaning.specs.declared.value.Place.{Place}
use Rattle.c_meaning.specs.declared.value.Value.{Value}
use Rattle.c_meaning.specs.declared.value.Value.TheVariants.{Null, To}
use Rattle.c_meaning.specs.Cells.{Structs, cells, cell_number}
use Rattle.c_meaning.specs.Memory.{Block, Memory, held, cell_in, cell, filled, with_cell, write, unwritten, Entered, enter}
use Rattle.c_meaning.specs.Values.{whole, number_as, as_type, pointer_as}
use Rattle.c_meaning.proofs.Frames.{get_changed, get_other}
use Rattle.run_facts.proofs.KeptMemories.{write_keeps, new_keeps}
use Rattle.simulation.specs.Renaming.{World, AlikeValue, number, null, pointer, AlikeCell, empty, held as both_hold}
use Rattle.simulation_steps.proofs.NewBlocks.{Nothing, none_held}

-- ---- values converted to a type

-- where the first is there, so is the second, and they are alike
pub record Converts (w : World) (t : ExprType) (z v : Value) : Type 0 where
  pub value : Value
  pub value_is : as_type t z ≡ Some value
  pub alike : AlikeValue w v value

pointer_alike : (w : World) (b : Bool) (v z u : Value) → AlikeValue w v z → pointer_as b v ≡ Some u → (y : Value) × (pointer_as b z ≡ Some y) × AlikeValue w u y
pointer_alike w true v z u h e = (z, refl, subst (λ k. AlikeValue w k z) (some_same e) h)
pointer_alike w false v z u h e = none_there e

number_itself : (w : World) (o : Option IntType) (n : ℤ) → AlikeValue w (number_as o n) (number_as o n)
number_itself w None n = null
number_itself w (Some t) n = number

pub converts : (w : World) (t : ExprType) (v z u : Value) → AlikeValue w v z → as_type t v ≡ Some u → Converts w t z u
converts w t v z u (number {z = n}) e =
    record { value = u; value_is = e; alike = subst (λ y. AlikeValue w y y) (some_same e) (number_itself w (integer_of t) n) }
converts w t v z u null e = let k = pointer_alike w (is_pointer t) Null Null u null e in record { value = k.0; value_is = k.1; alike = k.2 }
converts w t v z u (pointer {b = b} {c = c} {path = path} {index = i} s) e =
    let k = pointer_alike w (is_pointer t) (To (record { block = b; path = path; index = i })) (To (record { block = c; path = path; index = i })) u (pointer s) e in
    record { value = k.0; value_is = k.1; alike = k.2 }

-- ---- the cells of a new block in which a value is written

filled_alike : (w : World) (v z : Value) → AlikeValue w v z → (o : Option (Option Value)) → AlikeCell w (option_and_then held (option_map (λ (k : Option Value). Some v) o)) (option_and_then held (option_map (λ (k : Option Value). Some z) o))
filled_alike w v z h None = empty
filled_alike w v z h (Some k) = both_hold h

both_none : (w : World) (a b : Option Value) → a ≡ None → b ≡ None → AlikeCell w a b
both_none w a b p q = subst (λ k. AlikeCell w k b) (sym p) (subst (λ k. AlikeCell w None k) (sym q) empty)

cells_alike : (w : World) (v z : Value) → AlikeValue w v z → (ts : List ExprType) (i j : Option ℕ) → AlikeCell w (option_and_then held (option_and_then (slice_get (filled v i (map Nothing ts))) j)) (option_and_then held (option_and_then (slice_get (filled z i (map Nothing ts))) j))
cells_alike w v z h ts i None = empty
cells_alike w v z h ts None (Some n) = both_none w _ _ (none_held ts n) (none_held ts n)
cells_alike w v z h ts (Some a) (Some n) =
    elim (eqb_tells a n) [
      | inl e ↦ subst (λ k. AlikeCell w (option_and_then held (slice_get (filled v (Some k) (map Nothing ts)) n)) (option_and_then held (slice_get (filled z (Some k) (map Nothing ts)) n))) (sym e.1) (subst (λ k. AlikeCell w (option_and_then held k) (option_and_then held (slice_get (filled z (Some n) (map Nothing ts)) n))) (sym (get_changed (λ (o : Option Value). Some v) n (map Nothing ts))) (subst (λ k. AlikeCell w (option_and_then held (option_map (λ (o : Option Value). Some v) (slice_get (map Nothing ts) n))) (option_and_then held k)) (sym (get_changed (λ (o : Option Value). Some z) n (map Nothing ts))) (filled_alike w v z h (slice_get (map Nothing ts) n))))
      | inr e ↦ both_none w _ _ (ap (option_and_then held) (get_other (λ (o : Option Value). Some v) a n (map Nothing ts) e.1) ∙ none_held ts n) (ap (option_and_then held) (get_other (λ (o : Option Value). Some z) a n (map Nothing ts) e.1) ∙ none_held ts n)
    ]

-- a block of a type in which a value is written
abbrev pub given_block : Structs → ExprType → Value → Block
given_block structs t v = with_cell structs [] v (unwritten structs t Entered)

pub begun_alike : (w : World) (structs : Structs) (t : ExprType) (path : List Hop) (v z : Value) → AlikeValue w v z → AlikeCell w (option_and_then held (cell_in structs path (given_block structs t v))) (option_and_then held (cell_in structs path (given_block structs t z)))
begun_alike w structs t path v z h = cells_alike w v z h (cells structs t) (cell_number structs [] t) (cell_number structs path t)

-- a memory with a new block in which a value is written
abbrev pub begun_memory : ExprType → Value → Memory → Memory
begun_memory t v m = write (whole (length m.blocks)) v (enter t m)

pub old_cell : (t : ExprType) (v : Value) (m : Memory) (q : Place) → q.block < length m.blocks → cell (begun_memory t v m) q ≡ cell m q
old_cell t v m q lt =
    write_keeps (enter t m) (whole (length m.blocks)) q v (λ same. let e = same.block_is in absurd (omega (arith, e, lt)))
    ∙ new_keeps (unwritten m.structs t Entered) m q lt
