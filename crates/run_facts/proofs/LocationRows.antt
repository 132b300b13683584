-- Locations of cells, computed: all elements of an array are one, and the elements of a block that malloc made are the site.
use Rattle.std.proofs.Common.{◌≡◌, [], ◌∷◌, Some, None, refl}
use Rattle.c_meaning.specs.declared.value.Hop.TheVariants as hop
use Rattle.c_meaning.specs.Values.{OfVariable, OfStatement}
use Rattle.dep_model.specs.declared.location.Part.TheVariants as part
use Rattle.dep_model.specs.declared.location.Root.TheVariants.{Variable, Site}
use Rattle.dep_model.specs.Denoted.{variable}
use Rattle.dep_model.specs.MayPoint.{site}
use Rattle.run_facts.specs.CellLocations.{location_in, location_of}

a_variable : location_in (OfVariable 2) [] ≡ variable 2
a_variable = refl

an_element : location_in (OfVariable 2) (hop.Element 7 ∷ []) ≡ record { root = Variable 2; path = part.Element ∷ [] }
an_element = refl

a_member_of_an_element : location_in (OfVariable 2) (hop.Element 7 ∷ hop.Member 1 ∷ []) ≡ record { root = Variable 2; path = part.Element ∷ part.Member 1 ∷ [] }
a_member_of_an_element = refl

an_element_of_malloc : location_in (OfStatement 3) (hop.Element 7 ∷ []) ≡ site 3
an_element_of_malloc = refl

a_member_of_malloc : location_in (OfStatement 3) (hop.Element 7 ∷ hop.Member 1 ∷ []) ≡ record { root = Site 3; path = part.Member 1 ∷ [] }
a_member_of_malloc = refl

an_element_in_malloc : location_in (OfStatement 3) (hop.Element 7 ∷ hop.Member 1 ∷ hop.Element 4 ∷ []) ≡ record { root = Site 3; path = part.Member 1 ∷ part.Element ∷ [] }
an_element_in_malloc = refl

the_second_block : location_of (OfVariable 2 ∷ OfStatement 3 ∷ []) (record { block = 1; path = hop.Element 0 ∷ [] }) ≡ Some (site 3)
the_second_block = refl

no_block : location_of (OfVariable 2 ∷ []) (record { block = 1; path = [] }) ≡ None
no_block = refl
