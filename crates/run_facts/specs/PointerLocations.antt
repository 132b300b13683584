-- The location of a pointer: that of the object at its index, by the test that the meaning makes.
use Rattle.std.specs.Prelude.{List, [], ◌∷◌, Bool, true, false, Option, option_and_then}
use Rattle.c_language.specs.declared.expr_type.Layer.{Layer}
use Rattle.c_language.specs.declared.expr_type.Layer.TheVariants as layer
use Rattle.c_language.specs.declared.expr_type.ExprType.{ExprType}
use Rattle.c_meaning.specs.declared.value.Hop.{Hop}
use Rattle.c_meaning.specs.declared.value.Place.{Place}
use Rattle.c_meaning.specs.declared.value.Pointer.{Pointer}
use Rattle.c_meaning.specs.Pointers.{type_at, whole_of, item_in}
use Rattle.c_meaning.specs.Values.{Origin, OfVariable, OfStatement, State}
use Rattle.dep_model.specs.declared.location.Location.{Location}
use Rattle.run_facts.specs.CellLocations.{location_of}

-- what the objects of an array are; a single object is what it is
abbrev pub item_layers : List Layer → List Layer
item_layers [] = []
item_layers (layer.Pointer ∷ ls) = layer.Pointer ∷ ls
item_layers (layer.Array n ∷ ls) = ls

abbrev pub item_type : ExprType → ExprType
item_type t = record { layers = item_layers t.layers; base = t.base }

-- the object at a pointer's index, where what the pointer is in has this type
abbrev pub item_of : Pointer → ExprType → Place
item_of q t = item_in t.layers q.index (whole_of q)

-- the location of a pointer, whatever its index: that of the elements of its array, or of its single object
abbrev pub pointer_location : State → Pointer → Option Location
pointer_location s q = option_and_then (λ (t : ExprType). location_of s.origins (item_of q t)) (type_at s.memory (whole_of q))

-- whether a path leads to an object of the block: a block that malloc made is an array of objects, and none itself
abbrev pub is_object : Origin → List Hop → Bool
is_object (OfVariable x) hops = true
is_object (OfStatement i) [] = false
is_object (OfStatement i) (h ∷ hops) = true
