-- What rows say of a location is the row at its place.
use Rattle.std.proofs.Common.{◌≡◌, ℕ, zero, suc, cond, List, [], ◌∷◌, map, slice_get, position, Bool, true, false, Some, option_map, inl, inr, ap, ◌∙◌, subst, arith}
use Rattle.std.specs.Option.{option_map_or}
use Rattle.std.proofs.lemmas.Bool.{cases_Bool}
use Rattle.std.proofs.lemmas.Option.{same_Some}
use Rattle.bit_rows.specs.Sets.{has}
use Rattle.bit_rows.specs.Tables.{the_set}
use Rattle.c_language.proofs.Lists.{position-cons}
use Rattle.c_tree.specs.declared.program.Program.{Program}
use Rattle.dep_model.specs.declared.location.Location.{Location}
use Rattle.dep_model.specs.declared.points_to.PointsTo.{PointsTo}
use Rattle.dep_model.specs.Denoted.{no_places}
use Rattle.dep_model.specs.LocationRows.{place_of, row_places, points_of}
use Rattle.dep_model.specs.Locations.{TypedLocation, locations, same_location}
use Rattle.dep_model.specs.LocationLists.{location_list, AreListedOnce}
use Rattle.effect_rows.proofs.PlaceRows.{location_is, location_itself}

abbrev alone : TypedLocation → Location
alone o = o.location

abbrev is_at : Location → TypedLocation → Bool
is_at l o = same_location o.location l

position_once : (xs : List TypedLocation) (k : ℕ) (l : Location) → slice_get (map alone xs) k ≡ Some l → ((j : ℕ) → slice_get (map alone xs) j ≡ Some l → j ≡ k) → position (is_at l) xs ≡ Some k
position_once [] k l at only = cc
position_once (o ∷ xs) zero l at only =
    let here : o.location ≡ l = same_Some _ _ at in
    position-cons (is_at l) o xs ∙ ap (λ b. cond b (Some 0) (option_map suc (position (is_at l) xs))) (subst (λ m. same_location o.location m ≡ true) here (location_itself o.location))
position_once (o ∷ xs) (suc k) l at only = elim (cases_Bool (same_location o.location l)) [
  | inl same ↦ let e : 0 ≡ suc k = only 0 (ap Some (location_is o.location l same)) in absurd (omega (arith, e))
  | inr other ↦
      position-cons (is_at l) o xs
      ∙ ap (λ b. cond b (Some 0) (option_map suc (position (is_at l) xs))) other
      ∙ ap (option_map suc) (position_once xs k l at (λ j h. let e : suc j ≡ suc k = only (suc j) h in omega (arith, e)))
]

module _ (p : Program) (listed : AreListedOnce p) where
  -- the place of a listed location
  pub place_is : (k : ℕ) (l : Location) → slice_get (location_list p) k ≡ Some l → place_of p l ≡ Some k
  place_is k l at = position_once (locations p) k l at (λ j h. listed.once j k l h at)

  pub row_at_place : (row : List Bool) (k : ℕ) (l : Location) → slice_get (location_list p) k ≡ Some l → row_places p row l ≡ has row k
  row_at_place row k l at = ap (λ o. option_map_or (has row) o false) (place_is k l at)

  pub points_at_place : (t : PointsTo) (k : ℕ) (l : Location) → slice_get (location_list p) k ≡ Some l → points_of p t l ≡ row_places p (the_set t.rows k)
  points_at_place t k l at = ap (λ o. option_map_or (λ j. row_places p (the_set t.rows j)) o no_places) (place_is k l at)
