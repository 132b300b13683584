-- One number in the sets of a table, and what rules derive of it.
use Rattle.std.specs.Prelude.{◌≡◌, ◌≢◌, ◌<◌, ◌↔◌, ℕ, Bool, true, List, ◌||◌, map, Some, slice_get}
use Rattle.bit_rows.specs.Sets.{has}
use Rattle.bit_rows.specs.Tables.{Table, Holds, the_set}
use Rattle.c_tree.specs.declared.program.Program.{Program}
use Rattle.dep_model.specs.declared.location.Location.{Location}
use Rattle.dep_model.specs.LocationLists.{location_list}
use Rattle.dep_model.specs.ModRef.{is_outside}
use Rattle.rule_closure.specs.declared.closure.Rule.{Rule}
use Rattle.rule_closure.specs.Rules.{Derived}

-- the sets that have the number
abbrev pub column : Table → ℕ → List Bool
column t k = map (λ (s : List Bool). has s k) t.sets

-- those sets that are marked have gained the number, and no other number
pub record IsColumnJoined (marks : List Bool) (k : ℕ) (old new : Table) : Type 0 where
  pub here : (f : ℕ) → has (the_set new f) k ≡ (has (the_set old f) k || has marks f)
  pub others : (f j : ℕ) → j ≢ k → has (the_set new f) j ≡ has (the_set old f) j

-- the sets that the rules derive have gained the number, from those that have it in a table, and no other number
pub record IsSpread (rules : List Rule) (own : Table) (k : ℕ) (old new : Table) : Type 0 where
  pub marks : List Bool
  pub exact : (f : ℕ) → (has marks f ≡ true) ↔ Derived rules (column own k) f
  pub joined : IsColumnJoined marks k old new

-- a function has a location that is seen outside, by the rules and by what is said of it in a table
pub record IsSpreadTo (p : Program) (rules : List Rule) (own : Table) (l : Location) (k f : ℕ) : Type 0 where
  pub outside : is_outside p l ≡ true
  pub derived : Derived rules (column own k) f

-- the first n locations are spread, and no other is
pub record AreSpread (p : Program) (rules : List Rule) (own : Table) (n : ℕ) (found : Table) : Type 0 where
  pub done : (f k : ℕ) (l : Location) → k < n → slice_get (location_list p) k ≡ Some l → Holds found f k ↔ IsSpreadTo p rules own l k f
  pub to_come : (f k : ℕ) → Holds found f k → k < n
