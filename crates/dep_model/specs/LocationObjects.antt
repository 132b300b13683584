-- The objects whose parts are the locations of a program, and how their parts are counted and listed one after another.
use Rattle.std.specs.Prelude.{◌≡◌, ℕ, suc, Bool, true, false, List, [], ◌∷◌, ◌++◌, length, map, nat_lt, Option, Some, None, slice_index_or}
use Rattle.c_tree.specs.declared.program.Function.{Function}
use Rattle.c_tree.specs.declared.program.Program.{Program}
use Rattle.c_tree.specs.declared.program.Var.{Var}
use Rattle.c_tree.specs.declared.statement.Arm.{Arm}
use Rattle.c_tree.specs.declared.statement.Statement.{Statement}
use Rattle.c_tree.specs.declared.types.CType.{CType}
use Rattle.c_language.specs.TreeTypes.{shape_of}
use Rattle.c_language.specs.declared.expr_type.Base.{Base}
use Rattle.c_language.specs.declared.expr_type.Layer.{Layer}
use Rattle.c_language.specs.declared.expr_type.Layer.TheVariants.{Pointer, Array}
use Rattle.dep_model.specs.Doings.{Doing, doings, body_doings}
use Rattle.dep_model.specs.Locations.{Located, Heap, base_parts, parts_with, struct_parts, parts, below, heaps, function_heaps}
use Rattle.dep_model.specs.declared.location.Location.{Location}
use Rattle.dep_model.specs.declared.location.Part.{Part}
use Rattle.dep_model.specs.declared.location.Part.TheVariants as part
use Rattle.dep_model.specs.declared.location.Root.{Root}
use Rattle.dep_model.specs.declared.location.Root.TheVariants.{Variable, Site, Result}
use Rattle.dep_model.specs.declared.locations.objects.Object.{Object}
use Rattle.dep_model.specs.declared.locations.parts.Waiting.{Waiting}

-- ---- objects

abbrev pub variable_objects : ℕ → List Var → List Object
variable_objects x [] = []
variable_objects x (v ∷ vs) = record { root = Variable x; shape = shape_of v.shape } ∷ variable_objects (suc x) vs

abbrev pub site_objects : List Heap → List Object
site_objects [] = []
site_objects (h ∷ hs) = record { root = Site h.id; shape = h.elements } ∷ site_objects hs

abbrev pub result_object : ℕ → Option CType → List Object
result_object f None = []
result_object f (Some t) = record { root = Result f; shape = shape_of t } ∷ []

abbrev pub result_objects : ℕ → List Function → List Object
result_objects k [] = []
result_objects k (f ∷ fs) = result_object k f.result ++ result_objects (suc k) fs

-- the objects of a program, in the order of its locations
abbrev pub objects : Program → List Object
objects p = variable_objects 0 p.vars ++ (site_objects (function_heaps p p.functions) ++ result_objects 0 p.functions)

-- what statements allocate
abbrev pub sites : Program → List Doing → List Object
sites p ds = site_objects (heaps p ds)

abbrev pub body_sites : Program → List Statement → List Object
body_sites p b = sites p (body_doings b)

abbrev pub arm_sites : Program → List Arm → List Object
arm_sites p [] = []
arm_sites p (a ∷ as_) = body_sites p a.body ++ arm_sites p as_

abbrev pub part_sites : Program → Option Statement → List Object
part_sites p None = []
part_sites p (Some s) = sites p (doings s)

abbrev pub function_sites : Program → List Function → List Object
function_sites p fs = site_objects (function_heaps p fs)

-- ---- their parts

abbrev pub all_structs : Program → ℕ → List Located
all_structs p = struct_parts p (length p.structs)

-- a part below a path
abbrev pub placed_under : Root → List Part → Located → Location
placed_under r h o = record { root = r; path = h ++ o.path }

abbrev pub object_locations : Program → Object → List Location
object_locations p o = map (placed_under o.root []) (parts p o.shape)

abbrev pub locations_of : Program → List Object → List Location
locations_of p [] = []
locations_of p (o ∷ os) = object_locations p o ++ locations_of p os

-- the parts of an object without itself
abbrev pub inner_parts : Program → List Layer → Base → List Located
inner_parts p [] b = base_parts (all_structs p) b
inner_parts p (Pointer ∷ ls) b = []
inner_parts p (Array n ∷ ls) b = map (below part.Element) (parts_with (all_structs p) ls b)

-- the locations of a part that waits to be listed, with all its parts
abbrev pub waiting_locations : Program → Root → Waiting → List Location
waiting_locations p r w = map (placed_under r w.path) (parts p w.shape)

-- the last one is listed first
abbrev pub waiting : Program → Root → List Waiting → List Location
waiting p r [] = []
waiting p r (w ∷ ws) = waiting p r ws ++ waiting_locations p r w

-- ---- counts

abbrev pub capped_if : Bool → ℕ → ℕ
capped_if true n = 4097
capped_if false n = n

-- the number, or 4,097 where it is above 4,096
abbrev pub capped : ℕ → ℕ
capped n = capped_if (nat_lt 4096 n) n

-- the numbers of the parts of struct types
abbrev pub AreSizes : List ℕ → (ℕ → List Located) → Type 0
AreSizes sizes inside = (s : ℕ) → slice_index_or sizes s 0 ≡ capped (length (inside s))
