-- Tables of the places of a program's locations in their list.
use Rattle.std.specs.Prelude.{◌≡◌, ℕ, List, [], Option, Some, None, Contains, slice_get, slice_index_or}
use Rattle.std.specs.Global.{Vec}
use Rattle.std.specs.Option.{option_map_or}
use Rattle.c_tree.specs.declared.program.Program.{Program}
use Rattle.dep_model.specs.declared.location.Location.{Location}
use Rattle.dep_model.specs.declared.location.Part.TheVariants as part
use Rattle.dep_model.specs.Denoted.{inside}
use Rattle.dep_model.specs.LocationLists.{location_list}

-- where a location stands in a list: at the place, or nowhere where there is none
pub record IsPlaceOf (list : List Location) (l : Location) (place : Option ℕ) : Type 0 where
  pub found : (i : ℕ) → place ≡ Some i → slice_get list i ≡ Some l
  pub missing : place ≡ None → Contains list l → ⊥

-- the places of whole objects, by the numbers of these
abbrev pub ArePlacesOf : Program → (ℕ → Location) → List (Option ℕ) → Type 0
ArePlacesOf p object places = (x : ℕ) → IsPlaceOf (location_list p) (object x) (slice_index_or places x None)

-- the places of elements, by those of their arrays
abbrev pub AreElementPlaces : Program → List (Option ℕ) → Type 0
AreElementPlaces p places =
    (k : ℕ) (l : Location) → slice_get (location_list p) k ≡ Some l → IsPlaceOf (location_list p) (inside l part.Element) (slice_index_or places k None)

-- the places of members, by those of their structs and their places among the members of these
abbrev pub AreMemberPlaces : Program → (ℕ → ℕ → Option ℕ) → Type 0
AreMemberPlaces p place =
    (k m : ℕ) (l : Location) → slice_get (location_list p) k ≡ Some l → IsPlaceOf (location_list p) (inside l (part.Member m)) (place k m)

-- a list of places among such lists, the empty one past their end
abbrev pub places_at : List (Vec (Option ℕ)) → ℕ → List (Option ℕ)
places_at rows k = option_map_or (λ (r : Vec (Option ℕ)). r.items) (slice_get rows k) []
