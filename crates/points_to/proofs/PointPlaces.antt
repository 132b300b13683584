-- Where locations may point, by the places of both in the list.
use Rattle.std.proofs.Common.{◌≡◌, ℕ, suc, List, [], ◌∷◌, true, false, inl, inr, Option, Some, refl, ap, ◌∙◌, subst}
use Rattle.std.specs.Prelude.{slice_get}
use Rattle.std.specs.List.{list_any}
use Rattle.std.specs.Option.{option_map_or}
use Rattle.std.proofs.lemmas.Bool.{false≢true, or_cases}
use Rattle.bit_rows.specs.Sets.{has}
use Rattle.bit_rows.specs.Tables.{Table, the_set, Holds}
use Rattle.c_tree.specs.declared.program.Program.{Program}
use Rattle.dep_model.specs.declared.location.Location.{Location}
use Rattle.dep_model.specs.declared.points_to.PointsTo.{PointsTo}
use Rattle.dep_model.specs.Denoted.{no_places, is_location}
use Rattle.dep_model.specs.LocationLists.{AreListedOnce}
use Rattle.dep_model.specs.LocationRows.{place_of, row_places, points_of}
use Rattle.dep_model.specs.Locations.{TypedLocation, locations, same_location}
use Rattle.effect_rows.proofs.PlaceRows.{location_is}
use Rattle.effect_rows.proofs.PointRows.{row_at_place, points_at_place}
use Rattle.effect_rows.proofs.StepRows.{alone_at}
use Rattle.mod_ref.proofs.PlacedEffects.{IsFound, there, nowhere, found}

-- a location stands at a place of a list
pub record IsAt (os : List TypedLocation) (l : Location) : Type 0 where
  pub place : ℕ
  pub typed : TypedLocation
  pub at : slice_get os place ≡ Some typed
  pub is : typed.location ≡ l

at_later : (o : TypedLocation) (os : List TypedLocation) (l : Location) → IsAt os l → IsAt (o ∷ os) l
at_later o os l h = record { place = suc h.place; typed = h.typed; at = h.at; is = h.is }

at_found : (os : List TypedLocation) (l : Location) → list_any (λ (o : TypedLocation). same_location o.location l) os ≡ true → IsAt os l
at_found [] l h = absurd (false≢true h)
at_found (o ∷ os) l h = elim (or_cases (same_location o.location l) (list_any (λ (q : TypedLocation). same_location q.location l) os) h) [
  | inl here ↦ record { place = 0; typed = o; at = refl; is = location_is o.location l here }
  | inr later ↦ at_later o os l (at_found os l later)
]

-- rows in which one of two locations has the other, by the places of both
pub record AreHeld (p : Program) (t : PointsTo) (l m : Location) : Type 0 where
  pub first : IsAt (locations p) l
  pub second : IsAt (locations p) m
  pub holds : Holds t.rows first.place second.place

module _ (p : Program) where
  pub listed_at : (l : Location) → is_location p l ≡ true → IsAt (locations p) l
  listed_at l h = at_found (locations p) l h

  by_second : (t : PointsTo) (l m : Location) → (first : IsAt (locations p) l) → (place : Option ℕ) → IsFound (locations p) m place → option_map_or (has (the_set t.rows first.place)) place false ≡ true → AreHeld p t l m
  by_second t l m first _ (there k o at is) h = record { first = first; second = record { place = k; typed = o; at = at; is = is }; holds = h }
  by_second t l m first _ (nowhere none) h = absurd (false≢true h)

  by_first : (t : PointsTo) (l m : Location) → (place : Option ℕ) → IsFound (locations p) l place → option_map_or (λ k. row_places p (the_set t.rows k)) place no_places m ≡ true → AreHeld p t l m
  by_first t l m _ (there k o at is) h = by_second t l m (record { place = k; typed = o; at = at; is = is }) (place_of p m) (found (locations p) m) h
  by_first t l m _ (nowhere none) h = absurd (false≢true h)

  -- what rows say is said by places
  pub are_held : (t : PointsTo) (l m : Location) → points_of p t l m ≡ true → AreHeld p t l m
  are_held t l m h = by_first t l m (place_of p l) (found (locations p) l) h

  -- and what is said by places rows say
  pub held_points : AreListedOnce p → (t : PointsTo) (l m : Location) (first : IsAt (locations p) l) (second : IsAt (locations p) m) → Holds t.rows first.place second.place → points_of p t l m ≡ true
  held_points once t l m first second h =
      subst (λ k. points_of p t k m ≡ true) first.is (subst (λ n. points_of p t first.typed.location n ≡ true) second.is here)
    where
      here : points_of p t first.typed.location second.typed.location ≡ true
      here =
          ap (λ f. f second.typed.location) (points_at_place p once t first.place first.typed.location (alone_at (locations p) first.place first.typed first.at))
          ∙ row_at_place p once (the_set t.rows first.place) second.place second.typed.location (alone_at (locations p) second.place second.typed second.at)
          ∙ h

  -- rows that are the same say the same
  pub same_points : (t u : PointsTo) → u.rows ≡ t.rows → points_of p u ≡ points_of p t
  same_points t u same = ap (λ (r : Table). points_of p (record { rows = r })) same

  -- rows that have grown say no less
  pub more_points : AreListedOnce p → (t u : PointsTo) → ((r i : ℕ) → Holds t.rows r i → Holds u.rows r i) → (l m : Location) → points_of p t l m ≡ true → points_of p u l m ≡ true
  more_points once t u kept l m h = let w = are_held t l m h in held_points once u l m w.first w.second (kept w.first.place w.second.place w.holds)
