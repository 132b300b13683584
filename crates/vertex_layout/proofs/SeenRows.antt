-- What the rows of functions say of the location at a place.
use Rattle.std.proofs.Common.{◌≡◌, ℕ, zero, suc, ◌≤◌, List, [], ◌∷◌, length, slice_get, get_or, Bool, false, Some, refl, sym, ap, ◌∙◌, arith}
use Rattle.bit_rows.specs.Sets.{has}
use Rattle.bit_rows.specs.Tables.{Table, the_set}
use Rattle.c_tree.specs.declared.program.Program.{Program}
use Rattle.dep_model.specs.LocationLists.{AreListedOnce}
use Rattle.dep_model.specs.LocationRows.{row_places}
use Rattle.dep_model.specs.Locations.{TypedLocation, locations}
use Rattle.effect_rows.proofs.PointRows.{row_at_place}
use Rattle.effect_rows.proofs.StepRows.{alone_at}

none_past : (ts : List (List Bool)) (f : ℕ) → length ts ≤ f → get_or ts f [] ≡ []
none_past [] f low = refl
none_past (t ∷ ts) zero low = absurd (omega (arith, low))
none_past (t ∷ ts) (suc f) low = none_past ts f (omega (arith, low))

-- a row that is there
pub row_says : (p : Program) → AreListedOnce p → (t : Table) (f k : ℕ) (o : TypedLocation) (b : Bool) → b ≡ has (the_set t f) k → slice_get (locations p) k ≡ Some o → b ≡ row_places p (the_set t f) o.location
row_says p once t f k o b is at = is ∙ sym (row_at_place p once (the_set t f) k o.location (alone_at (locations p) k o at))

-- a row past the last has nothing
pub no_row_says : (p : Program) → AreListedOnce p → (t : Table) (f k : ℕ) (o : TypedLocation) → length t.sets ≤ f → slice_get (locations p) k ≡ Some o → false ≡ row_places p (the_set t f) o.location
no_row_says p once t f k o past at = row_says p once t f k o false (sym (ap (λ (row : List Bool). has row k) (none_past t.sets f past))) at
