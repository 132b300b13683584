-- The location of a cell: it lies where its block was made, at its path in the block.
use Rattle.std.specs.Prelude.{List, [], ◌∷◌, map, Option, option_map, slice_get}
use Rattle.c_meaning.specs.declared.value.Hop.{Hop}
use Rattle.c_meaning.specs.declared.value.Hop.TheVariants as hop
use Rattle.c_meaning.specs.declared.value.Place.{Place}
use Rattle.c_meaning.specs.Values.{Origin, OfVariable, OfStatement}
use Rattle.dep_model.specs.declared.location.Location.{Location}
use Rattle.dep_model.specs.declared.location.Part.{Part}
use Rattle.dep_model.specs.declared.location.Part.TheVariants as part
use Rattle.dep_model.specs.declared.location.Root.TheVariants.{Variable, Site}

-- all elements of an array are one
abbrev pub merged : Hop → Part
merged (hop.Member i) = part.Member i
merged (hop.Element i) = part.Element

-- a malloc's site stands for all elements of its blocks, so the step from such a block to an element leads to no part of the site
abbrev pub location_in : Origin → List Hop → Location
location_in (OfVariable x) hops = record { root = Variable x; path = map merged hops }
location_in (OfStatement i) [] = record { root = Site i; path = [] }
location_in (OfStatement i) (h ∷ hops) = record { root = Site i; path = map merged hops }

-- the location of a place, where these made the blocks
abbrev pub location_of : List Origin → Place → Option Location
location_of origins q = option_map (λ (o : Origin). location_in o q.path) (slice_get origins q.block)
