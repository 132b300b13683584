-- Tables in which the first of a list of locations are noted.
use Rattle.std.specs.Prelude.{◌≡◌, ◌<◌, ◌==◌, ℕ, List, [], length, ◌&&◌, if◌then◌else◌, Option, Some, None, slice_get, slice_index_or}
use Rattle.std.specs.Global.{Vec}
use Rattle.dep_model.specs.declared.location.Location.{Location}
use Rattle.dep_model.specs.declared.location.Part.{Part}
use Rattle.dep_model.specs.declared.location.Part.TheVariants as part
use Rattle.dep_model.specs.declared.location.Root.{Root}
use Rattle.dep_model.specs.declared.location.Root.TheVariants.{Variable, Result}
use Rattle.dep_model.specs.Denoted.{variable, inside}
use Rattle.dep_model.specs.DoingEffects.{result_of}
use Rattle.dep_model.specs.Locations.{same_root, same_part}
use Rattle.effect_rows.specs.declared.tables.Tables.{Tables}
use Rattle.effect_rows.specs.Tables.{places_at}

-- no location stands in the list twice
abbrev pub IsListOnce : List Location → Type 0
IsListOnce list = (j k : ℕ) (l : Location) → slice_get list j ≡ Some l → slice_get list k ≡ Some l → j ≡ k

-- where a location stands among the first n of a list
pub record IsPlaceBelow (list : List Location) (n : ℕ) (l : Location) (place : Option ℕ) : Type 0 where
  pub found : (i : ℕ) → place ≡ Some i → slice_get list i ≡ Some l
  pub missing : place ≡ None → (i : ℕ) → i < n → slice_get list i ≡ Some l → ⊥

-- the place of a part of the location at place k
abbrev pub part_place : Tables → ℕ → Part → Option ℕ
part_place t k part.Element = slice_index_or t.elements.items k None
part_place t k (part.Member m) = slice_index_or (places_at t.members.items k) m None

-- the first n locations are noted
pub record AreNoted (list : List Location) (n : ℕ) (t : Tables) : Type 0 where
  pub count_is : t.count ≡ length list
  pub rows : length t.members.items ≡ length list
  pub variables_are : (x : ℕ) → IsPlaceBelow list n (variable x) (slice_index_or t.variables.items x None)
  pub results_are : (f : ℕ) → IsPlaceBelow list n (result_of f) (slice_index_or t.results.items f None)
  pub parts_are : (k : ℕ) (h : Part) (l : Location) → slice_get list k ≡ Some l → IsPlaceBelow list n (inside l h) (part_place t k h)

-- so many lists without a place
pub record AreEmptyRows (count : ℕ) (rows : List (Vec (Option ℕ))) : Type 0 where
  pub many : length rows ≡ count
  pub empty : (k : ℕ) → places_at rows k ≡ []

-- a place with one more place written
abbrev pub IsWritten : List (Option ℕ) → List (Option ℕ) → ℕ → ℕ → Type 0
IsWritten old new number place = (x : ℕ) → slice_index_or new x None ≡ (if number == x then Some place else slice_index_or old x None)

-- the place of a whole object is noted
pub record IsWholeNoted (root : Root) (place : ℕ) (old new : Tables) : Type 0 where
  pub variables : (x : ℕ) → slice_index_or new.variables.items x None ≡ (if same_root root (Variable x) then Some place else slice_index_or old.variables.items x None)
  pub results : (f : ℕ) → slice_index_or new.results.items f None ≡ (if same_root root (Result f) then Some place else slice_index_or old.results.items f None)
  pub elements_stay : new.elements ≡ old.elements
  pub members_stay : new.members ≡ old.members
  pub count_stays : new.count ≡ old.count

-- the place of a part of the location at place k is noted
pub record IsPartNoted (k : ℕ) (h : Part) (place : ℕ) (old new : Tables) : Type 0 where
  pub parts : (j : ℕ) (g : Part) → part_place new j g ≡ (if (k == j) && same_part h g then Some place else part_place old j g)
  pub rows_stay : length new.members.items ≡ length old.members.items
  pub variables_stay : new.variables ≡ old.variables
  pub results_stay : new.results ≡ old.results
  pub count_stays : new.count ≡ old.count
