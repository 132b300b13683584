-- Rows that say by place what functions modify and use say it of every location, where all of that is listed.
use Rattle.std.proofs.Common.{◌≡◌, ◌↔◌, ◌⊎◌, inl, inr, ℕ, suc, cond, List, [], ◌∷◌, map, slice_get, position, Bool, true, false, Option, Some, None, option_map, refl, sym, ◌∙◌, subst}
use Rattle.std.specs.Option.{option_map_or}
use Rattle.std.proofs.lemmas.Bool.{false≢true}
use Rattle.bit_rows.specs.Sets.{has}
use Rattle.bit_rows.specs.Tables.{the_set}
use Rattle.c_language.proofs.Lists.{position-cons}
use Rattle.c_tree.specs.declared.program.Program.{Program}
use Rattle.dep_model.specs.declared.location.Location.{Location}
use Rattle.dep_model.specs.declared.points_to.Effects.{Effects}
use Rattle.dep_model.specs.Denoted.{TargetsOf}
use Rattle.dep_model.specs.ListedLocations.{IsListed}
use Rattle.dep_model.specs.LocationRows.{place_of, row_places, AreEffectRows}
use Rattle.dep_model.specs.Locations.{TypedLocation, locations, same_location}
use Rattle.dep_model.specs.ModRef.{Modifies, MayUse}
use Rattle.dep_model.proofs.Membership.{IsIn, in_of_contains}
use Rattle.effect_rows.proofs.PlaceRows.{location_is, location_itself}
use Rattle.mod_ref.specs.Effects.{AreEffectsByPlace}

abbrev alone : TypedLocation → Location
alone o = o.location

abbrev is_at : Location → TypedLocation → Bool
is_at l o = same_location o.location l

-- a location stands among some at its place, or is none of them
pub data IsFound (xs : List TypedLocation) (l : Location) : Option ℕ → Type 0 where
  there : (k : ℕ) (o : TypedLocation) → slice_get xs k ≡ Some o → o.location ≡ l → IsFound xs l (Some k)
  nowhere : (IsIn (map alone xs) l → ⊥) → IsFound xs l None

found_later : (o : TypedLocation) (xs : List TypedLocation) (l : Location) (place : Option ℕ) → (o.location ≡ l → ⊥) → IsFound xs l place → IsFound (o ∷ xs) l (option_map suc place)
found_later o xs l _ apart (there k q is same) = there (suc k) q is same
found_later o xs l _ apart (nowhere none) = nowhere (λ h. elim h [ inl e ↦ apart e | inr m ↦ none m ])

found_by : (o : TypedLocation) (xs : List TypedLocation) (l : Location) (place : Option ℕ) (b : Bool) → is_at l o ≡ b → IsFound xs l place → IsFound (o ∷ xs) l (cond b (Some 0) (option_map suc place))
found_by o xs l place true t h = there 0 o refl (location_is o.location l t)
found_by o xs l place false t h =
    found_later o xs l place (λ e. false≢true (sym t ∙ subst (λ m. same_location o.location m ≡ true) e (location_itself o.location))) h

pub found : (xs : List TypedLocation) (l : Location) → IsFound xs l (position (is_at l) xs)
found [] l = nowhere (λ h. h)
found (o ∷ xs) l = subst (IsFound (o ∷ xs) l) (sym (position-cons (is_at l) o xs)) (found_by o xs l (position (is_at l) xs) (is_at l o) refl (found xs l))

module _ (p : Program) where
  -- a row that has by place what is so has it of every location, where that is listed
  row_says : (row : List Bool) (l : Location) (IsSo : Location → Type 0) → ((k : ℕ) (o : TypedLocation) → slice_get (locations p) k ≡ Some o → (has row k ≡ true) ↔ IsSo o.location)
      → (IsSo l → IsListed p l) → (row_places p row l ≡ true) ↔ IsSo l
  row_says row l IsSo by_place listed = by_found (place_of p l) (found (locations p) l)
    where
      by_found : (place : Option ℕ) → IsFound (locations p) l place → (option_map_or (has row) place false ≡ true) ↔ IsSo l
      by_found _ (there k o is same) = subst (λ m. (has row k ≡ true) ↔ IsSo m) same (by_place k o is)
      by_found _ (nowhere none) = (λ t. absurd (false≢true t), λ h. absurd (none (in_of_contains (map alone (locations p)) l (listed h))))

pub are_rows : (p : Program) (points : TargetsOf) (e : Effects) → ((f : ℕ) (l : Location) → Modifies p points f l ⊎ MayUse p points f l → IsListed p l)
    → AreEffectsByPlace p points e → AreEffectRows p points e
are_rows p points e listed h = record {
  sized = h.sized;
  exact = record {
    modified_are = λ f l. row_says p (the_set e.modified f) l (Modifies p points f) (λ k o is. h.modified_are f k o is) (λ m. listed f l (inl m));
    used_are = λ f l. row_says p (the_set e.used f) l (MayUse p points f) (λ k o is. h.used_are f k o is) (λ m. listed f l (inr m));
  };
}
