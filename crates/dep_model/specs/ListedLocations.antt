-- The locations of a program by which its acts depend on one another stand in the list of its locations.
use Rattle.std.specs.Prelude.{◌≡◌, ℕ, true, map, Contains}
use Rattle.c_tree.specs.declared.program.Program.{Program}
use Rattle.dep_model.specs.declared.location.Location.{Location}
use Rattle.dep_model.specs.Locations.{TypedLocation, locations}
use Rattle.dep_model.specs.SystemGraph.{Analysis, vertices_of, numbered_effects}

-- a location stands in the list of a program's locations
abbrev pub IsListed : Program → Location → Type 0
IsListed p l = Contains (map (λ (o : TypedLocation). o.location) (locations p)) l

-- each location that one vertex may define and another, or the same, may use is listed
abbrev pub AreListed : Program → Analysis → Type 0
AreListed p a =
    (v w : ℕ) (l : Location) → (numbered_effects p a.points (vertices_of p a)).defines v l ≡ true → (numbered_effects p a.points (vertices_of p a)).uses w l ≡ true → IsListed p l
