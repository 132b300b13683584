-- What statements add to rows, part by part.
use mathlib.Core.Path.{fun_ext}
use Rattle.std.proofs.Common.{◌≡◌, ℕ, zero, suc, ◌+◌, ◌<◌, Bool, true, false, ◌||◌, List, [], ◌∷◌, length, take, get_or, replicate, slice_get, slice_set, Option, Some, None, refl, sym, ap, ap₂, ◌∙◌, subst, arith}
use Rattle.std.specs.Borrow.{Bor}
use Rattle.std.specs.List.{list_any}
use Rattle.c_language.proofs.Tests.{or_assoc}
use Rattle.c_tree.specs.declared.expr.Expr.{Expr}
use Rattle.c_tree.specs.declared.program.Program.{Program}
use Rattle.bit_rows.specs.Sets.{union}
use Rattle.bit_rows.specs.Tables.{Table, the_set, with_set}
use Rattle.bit_rows.proofs.TableLemmas.{with_set_same}
use Rattle.dep_model.specs.declared.location.Location.{Location}
use Rattle.dep_model.specs.declared.location.Part.{Part}
use Rattle.dep_model.specs.Denoted.{Places, TargetsOf, part_of, expr_reads}
use Rattle.dep_model.specs.DoingEffects.{the_input, any_reads}
use Rattle.dep_model.specs.LocationLists.{location_list, AreListedOnce}
use Rattle.dep_model.specs.Locations.{locations, same_location}
use Rattle.effect_rows.specs.declared.steps.Step.TheVariants as step
use Rattle.effect_rows.specs.declared.steps.Steps.{Steps}
use Rattle.effect_rows.specs.declared.steps.Steps.TheVariants as steps
use Rattle.effect_rows.specs.Gains.{with_places, HasLocationRow}
use Rattle.effect_rows.specs.Steps.{taken}
use Rattle.effect_rows.specs.Tables.{IsPlaceOf}
use Rattle.effect_rows.proofs.GainLemmas.{gains_twice, gains_nothing}
use Rattle.effect_rows.proofs.PlaceLemmas.{taken-Done, taken-Then}
use Rattle.effect_rows.proofs.PlaceRows.{row_by_place, row_without_place}

-- ---- one location

or_true : (x : Bool) → (x || true) ≡ true
or_true true = refl
or_true false = refl

or_false : (x : Bool) → (x || false) ≡ x
or_false true = refl
or_false false = refl

union_empty : (s : List Bool) (n : ℕ) → length s ≡ n → union s (replicate n false) ≡ s
union_empty [] zero e = refl
union_empty [] (suc n) e = absurd (omega (arith, e))
union_empty (x ∷ s) zero e = absurd (omega (arith, e))
union_empty (x ∷ s) (suc n) e = ap₂ (λ (b : Bool) (bs : List Bool). b ∷ bs) (or_false x) (union_empty s n (omega (arith, e)))

union_one : (s : List Bool) (n k : ℕ) → length s ≡ n → union s (slice_set (replicate n false) k true) ≡ slice_set s k true
union_one [] zero k e = refl
union_one [] (suc n) k e = absurd (omega (arith, e))
union_one (x ∷ s) zero k e = absurd (omega (arith, e))
union_one (x ∷ s) (suc n) zero e = ap₂ (λ (b : Bool) (bs : List Bool). b ∷ bs) (or_true x) (union_empty s n (omega (arith, e)))
union_one (x ∷ s) (suc n) (suc k) e = ap₂ (λ (b : Bool) (bs : List Bool). b ∷ bs) (or_false x) (union_one s n k (omega (arith, e)))

module _ (p : Program) (r : ℕ) where
  row_length : (t : Table) → HasLocationRow p r t → length (the_set t r) ≡ length (locations p)
  row_length t has = has.sized.full r has.row_in

  -- a row gains the location at a place
  pub gains_place : (t u : Table) (l : Location) (place : Option ℕ) (k : ℕ) → HasLocationRow p r t → AreListedOnce p → IsPlaceOf (location_list p) l place → place ≡ Some k → u ≡ with_set t r (slice_set (the_set t r) k true) → u ≡ with_places p r (same_location l) t
  gains_place t u l place k has once at is set =
      set ∙ ap (with_set t r) (sym (ap (union (the_set t r)) (row_by_place p once l place at k is) ∙ union_one (the_set t r) (length (locations p)) k (row_length t has)))

  -- one that isn't listed is no gain
  pub gains_no_place : (t : Table) (l : Location) (place : Option ℕ) → HasLocationRow p r t → IsPlaceOf (location_list p) l place → place ≡ None → t ≡ with_places p r (same_location l) t
  gains_no_place t l place has at none =
      sym (ap (with_set t r) (ap (union (the_set t r)) (row_without_place p l place at none) ∙ union_empty (the_set t r) (length (locations p)) (row_length t has)) ∙ with_set_same t r)

-- the input is the first location
pub input_first : (p : Program) → IsPlaceOf (location_list p) the_input (Some 0)
input_first p = record { found = λ i is. subst (λ k. slice_get (location_list p) k ≡ Some the_input) (some_is 0 i is) refl; missing = λ none c. cc }
  where
    some_is : (i j : ℕ) → Some i ≡ Some j → i ≡ j
    some_is i j e = cc

-- ---- steps from a variable

module _ (p : Program) (points : TargetsOf) where
  pub taken_itself : (a : Places) → taken p points steps.Done a ≡ a
  taken_itself a = ap (λ f. f a) (taken-Done p points)

  -- a step to a part, and no more
  pub taken_part : (h : Part) (rest : Bor Steps) (a : Places) → rest.now ≡ steps.Done → taken p points (steps.Then (step.Part h) rest) a ≡ part_of p h a
  taken_part h rest a e = ap (λ f. f a) (taken-Then p points (step.Part h) rest) ∙ ap (λ s. taken p points s (part_of p h a)) e ∙ taken_itself (part_of p h a)

-- ---- expressions in a list

any_more : (f : Expr → Bool) (es : List Expr) (i : ℕ) (e : Expr) → i < length es → e ≡ get_or es i e → list_any f (take (i + 1) es) ≡ (list_any f (take i es) || f e)
any_more f [] i e lt is = absurd (omega (arith, lt))
any_more f (x ∷ es) zero e lt is = or_false (f x) ∙ ap f (sym is)
any_more f (x ∷ es) (suc i) e lt is =
    let next : suc i + 1 ≡ suc (i + 1) = omega arith in
    ap (λ n. list_any f (take n (x ∷ es))) next ∙ ap (λ b. f x || b) (any_more f es i e (omega (arith, lt)) is) ∙ sym (or_assoc (f x) (list_any f (take i es)) (f e))

module _ (p : Program) (points : TargetsOf) (r : ℕ) where
  pub reads_more : (es : List Expr) (i : ℕ) (e : Expr) (t u v : Table) → HasLocationRow p r t → i < length es → e ≡ get_or es i e → u ≡ with_places p r (any_reads p points (take i es)) t → v ≡ with_places p r (expr_reads p points e) u
      → v ≡ with_places p r (any_reads p points (take (i + 1) es)) t
  reads_more es i e t u v has lt is to_u to_v =
      to_v ∙ ap (with_places p r (expr_reads p points e)) to_u ∙ gains_twice p r (any_reads p points (take i es)) (expr_reads p points e) t has
      ∙ ap (λ (a : Places). with_places p r a t) (sym (fun_ext (λ l. any_more (λ (x : Expr). expr_reads p points x l) es i e lt is)))

  pub reads_begin : (t : Table) → t ≡ with_places p r (any_reads p points []) t
  reads_begin t = sym (gains_nothing p r t)
