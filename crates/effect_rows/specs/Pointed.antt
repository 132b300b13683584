-- A program, where rows say to what its locations may point.
use Rattle.std.specs.Prelude.{◌≡◌, length, None, slice_index_or}
use Rattle.c_tree.specs.declared.program.Program.{Program}
use Rattle.dep_model.specs.declared.points_to.PointsTo.{PointsTo}
use Rattle.dep_model.specs.Denoted.{TargetsOf, variable}
use Rattle.dep_model.specs.DoingEffects.{result_of}
use Rattle.dep_model.specs.LocationRows.{points_of}
use Rattle.dep_model.specs.Locations.{locations}
use Rattle.dep_model.specs.LocationLists.{AreListedOnce}
use Rattle.effect_rows.specs.declared.tables.Tables.{Tables}
use Rattle.effect_rows.specs.Taken.{AreTaken}
use Rattle.effect_rows.specs.Tables.{ArePlacesOf, AreElementPlaces, AreMemberPlaces, places_at}

pub record PointedProgram : Type 0 where
  pub program : Program
  pub rows : PointsTo

-- to what each location may point
abbrev pub points_in : PointedProgram → TargetsOf
points_in g = points_of g.program g.rows

-- the tables are those of a program that lists no location twice
pub record AreTables (p : Program) (t : Tables) : Type 0 where
  pub once : AreListedOnce p
  pub count_is : t.count ≡ length (locations p)
  pub variables_are : ArePlacesOf p variable t.variables.items
  pub results_are : ArePlacesOf p result_of t.results.items
  pub elements_are : AreElementPlaces p t.elements.items
  pub members_are : AreMemberPlaces p (λ k m. slice_index_or (places_at t.members.items k) m None)
  pub taken_are : AreTaken p t.taken.items
