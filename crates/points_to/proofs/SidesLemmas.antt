-- The sides of a pointing as rows, and what it says that they have been used.
use Rattle.std.proofs.Common.{◌≡◌, ◌≢◌, ℕ, ◌<◌, List, [], ◌∷◌, length, replicate, slice_set, Bool, true, false, Option, Some, None, refl, sym, ap, ◌∙◌, subst, arith}
use Rattle.std.proofs.lemmas.List.{length-map, length-set}
use Rattle.bit_rows.specs.Sets.{union}
use Rattle.bit_rows.specs.Tables.{Table, the_set, with_set, IsSized}
use Rattle.bit_rows.proofs.TableLemmas.{the_set-with_set, other-with_set}
use Rattle.c_tree.specs.declared.program.Program.{Program}
use Rattle.dep_model.specs.declared.location.Location.{Location}
use Rattle.dep_model.specs.Denoted.{Places}
use Rattle.dep_model.specs.LocationLists.{location_list, AreListedOnce}
use Rattle.dep_model.specs.Locations.{TypedLocation, locations, same_location}
use Rattle.dep_model.specs.MayPoint.{pointing}
use Rattle.effect_rows.specs.Gains.{row_of, with_places}
use Rattle.effect_rows.specs.Tables.{IsPlaceOf}
use Rattle.effect_rows.proofs.PlaceRows.{row_by_place, row_without_place}
use Rattle.points_to.specs.declared.solver.Solver.{Solver}
use Rattle.points_to.specs.Sweeps.{Standing, standing, IsFilled, IsJoined, IsUsed}
use Rattle.points_to.proofs.SweepLemmas.{joined_used}
use Rattle.points_to.proofs.TellLemmas.{same_standing}

-- ---- rows that were cleared

union_blank : (xs : List Bool) → union (replicate (length xs) false) xs ≡ xs
union_blank [] = refl
union_blank (x ∷ xs) = ap (λ bs. x ∷ bs) (union_blank xs)

blank_row : (p : Program) (a : Places) → union (replicate (length (locations p)) false) (row_of p a) ≡ row_of p a
blank_row p a = subst (λ n. union (replicate n false) (row_of p a) ≡ row_of p a) (length-map (locations p) (λ (o : TypedLocation). a o.location)) (union_blank (row_of p a))

module _ (p : Program) (r : ℕ) (s t : Table) (size : IsSized 3 (length (locations p)) s) (low : r < 3) (cleared : t ≡ with_set s r (replicate s.bits false)) where
  -- it is one of three still
  still_three : length t.sets ≡ 3
  still_three = ap (λ (v : Table). length v.sets) cleared ∙ length-set s.sets r (replicate s.bits false) ∙ size.rows_are

  place : r < length t.sets
  place = let three = still_three in omega (arith, three, low)

  pub cleared_row : the_set t r ≡ replicate (length (locations p)) false
  cleared_row =
      ap (λ (v : Table). the_set v r) cleared ∙ the_set-with_set s r (replicate s.bits false) (let three = size.rows_are in omega (arith, three, low)) ∙ ap (λ n. replicate n false) size.bits_are

  -- it has gained some locations
  pub filled_row : (a : Places) (u : Table) → u ≡ with_places p r a t → the_set u r ≡ row_of p a
  filled_row a u gained =
      ap (λ (v : Table). the_set v r) gained ∙ the_set-with_set t r (union (the_set t r) (row_of p a)) place ∙ ap (λ row. union row (row_of p a)) cleared_row ∙ blank_row p a

  -- it has been joined with the row of some
  pub joined_row : (a : Places) (row : List Bool) (u : Table) → u ≡ with_set t r (union (the_set t r) row) → row ≡ row_of p a → the_set u r ≡ row_of p a
  joined_row a row u joined is =
      ap (λ (v : Table). the_set v r) joined ∙ the_set-with_set t r (union (the_set t r) row) place ∙ ap (λ one. union one row) cleared_row ∙ ap (λ other. union (replicate (length (locations p)) false) other) is ∙ blank_row p a

  -- it has one location
  pub one_row : AreListedOnce p → (l : Location) (k : ℕ) (found : Option ℕ) (u : Table) → IsPlaceOf (location_list p) l found → found ≡ Some k → u ≡ with_set t r (slice_set (the_set t r) k true) → the_set u r ≡ row_of p (same_location l)
  one_row once l k found u is at set =
      ap (λ (v : Table). the_set v r) set ∙ the_set-with_set t r (slice_set (the_set t r) k true) place ∙ ap (λ row. slice_set row k true) cleared_row ∙ sym (row_by_place p once l found is k at)

  pub no_row : (l : Location) (found : Option ℕ) → IsPlaceOf (location_list p) l found → found ≡ None → the_set t r ≡ row_of p (same_location l)
  no_row l found is at = cleared_row ∙ sym (row_without_place p l found is at)

  -- the other one stays
  pub other_row : (q : ℕ) (row : List Bool) (u : Table) → q ≢ r → u ≡ with_set t r row → the_set u q ≡ the_set s q
  other_row q row u apart is =
      ap (λ (v : Table). the_set v q) is ∙ other-with_set t r q row apart ∙ ap (λ (v : Table). the_set v q) cleared ∙ other-with_set s r q (replicate s.bits false) apart

  pub other_cleared : (q : ℕ) → q ≢ r → the_set t q ≡ the_set s q
  other_cleared q apart = ap (λ (v : Table). the_set v q) cleared ∙ other-with_set s r q (replicate s.bits false) apart

-- ---- sides that are used

pub filled_used : (old mid new : Solver) (changed : Bool) (into from : Places) → the_set old.sides 0 ≡ row_of old.effects into → IsFilled from old mid → IsJoined mid new changed → IsUsed old.effects (pointing into from) (standing old) new changed
filled_used old mid new changed into from left filled joined =
    let used = joined_used (pointing into from) mid new changed filled.ready (filled.left_stays ∙ left ∙ ap (λ q. row_of q into) (sym filled.program_stays)) (filled.right ∙ ap (λ q. row_of q from) (sym filled.program_stays)) joined in
    let same : standing mid ≡ standing old = same_standing old mid filled.rows_stay filled.agenda_stays in
    subst (λ (t : Standing). IsUsed old.effects (pointing into from) t new changed) same (subst (λ q. IsUsed q (pointing into from) (standing mid) new changed) filled.program_stays used)
