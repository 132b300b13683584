-- The locations of a program: roots with paths of members and merged array elements, in their order.
use Rattle.std.specs.Prelude.{ℕ, zero, suc, ◌==◌, List, [], ◌∷◌, ◌++◌, length, map, Bool, true, false, ◌&&◌, Option, Some, None}
use Rattle.c_tree.specs.declared.program.Function.{Function}
use Rattle.c_tree.specs.declared.program.Member.{Member}
use Rattle.c_tree.specs.declared.program.Program.{Program}
use Rattle.c_tree.specs.declared.program.Var.{Var}
use Rattle.c_tree.specs.declared.statement.Target.{Target}
use Rattle.c_tree.specs.declared.statement.Target.TheVariants as target
use Rattle.c_tree.specs.declared.types.CType.{CType}
use Rattle.c_language.specs.declared.expr_type.Base.{Base}
use Rattle.c_language.specs.declared.expr_type.Base.TheVariants as base
use Rattle.c_language.specs.declared.expr_type.Layer.{Layer}
use Rattle.c_language.specs.declared.expr_type.Layer.TheVariants.{Pointer, Array}
use Rattle.c_language.specs.declared.expr_type.ExprType.{ExprType}
use Rattle.c_language.specs.Lists.{same_all}
use Rattle.c_language.specs.Code.{Act, Allocates}
use Rattle.c_language.specs.DeclaredTypes.{void}
use Rattle.c_language.specs.TreeTypes.{shape_of, members_of, pointee, type_of_variable, tree_type}
use Rattle.dep_model.specs.Doings.{Doing, Does, Calls, body_doings}
use Rattle.dep_model.specs.declared.location.Location.{Location}
use Rattle.dep_model.specs.declared.location.Root.{Root}
use Rattle.dep_model.specs.declared.location.Root.TheVariants.{Input, Variable, Site, Result}
use Rattle.dep_model.specs.declared.location.Part.{Part}
use Rattle.dep_model.specs.declared.location.Part.TheVariants as part

-- a part of an object, with its type
pub record Located : Type 0 where
  pub path : List Part
  pub type : ExprType

abbrev pub below : Part → Located → Located
below h o = record o { path = h ∷ o.path }

abbrev pub type_with : List Layer → Base → ExprType
type_with ls b = record { layers = ls; base = b }

-- the parts of a struct, where `inside` has those of each of its members' structs
abbrev pub base_parts : (ℕ → List Located) → Base → List Located
base_parts inside (base.Struct s) = inside s
base_parts inside (base.Integer t) = []
base_parts inside base.Void = []

-- an object, and then its parts: all elements of an array are one
abbrev pub parts_with : (ℕ → List Located) → List Layer → Base → List Located
parts_with inside [] b = record { path = []; type = type_with [] b } ∷ base_parts inside b
parts_with inside (Pointer ∷ ls) b = record { path = []; type = type_with (Pointer ∷ ls) b } ∷ []
parts_with inside (Array n ∷ ls) b = record { path = []; type = type_with (Array n ∷ ls) b } ∷ map (below part.Element) (parts_with inside ls b)

abbrev pub member_parts : (ℕ → List Located) → ℕ → List Member → List Located
member_parts inside k [] = []
member_parts inside k (m ∷ ms) =
    map (below (part.Member k)) (parts_with inside (shape_of m.shape).layers (shape_of m.shape).base) ++ member_parts inside (suc k) ms

-- the parts of a struct type, as deep as there are struct types
abbrev pub struct_parts : Program → ℕ → ℕ → List Located
struct_parts p zero s = []
struct_parts p (suc n) s = member_parts (struct_parts p n) 0 (members_of p s)

abbrev pub parts : Program → ExprType → List Located
parts p t = parts_with (struct_parts p (length p.structs)) t.layers t.base

-- a location, with its type
pub record TypedLocation : Type 0 where
  pub location : Location
  pub type : ExprType

abbrev pub placed : Root → Located → TypedLocation
placed r o = record { location = record { root = r; path = o.path }; type = o.type }

abbrev pub rooted : Program → Root → ExprType → List TypedLocation
rooted p r t = map (placed r) (parts p t)

abbrev pub variable_locations : Program → ℕ → List Var → List TypedLocation
variable_locations p x [] = []
variable_locations p x (v ∷ vs) = rooted p (Variable x) (shape_of v.shape) ++ variable_locations p (suc x) vs

-- a call of malloc, with the type of its elements
pub record Heap : Type 0 where
  pub id : ℕ
  pub elements : ExprType

-- the type of a target
abbrev pub target_type : Program → Target → ExprType
target_type p target.None = void
target_type p (target.Place e) = tree_type p e
target_type p (target.Declared x) = type_of_variable p x

abbrev pub act_heaps : Program → ℕ → Act → List Heap
act_heaps p i (Allocates to n) = record { id = i; elements = pointee (target_type p to) } ∷ []
act_heaps p i _ = []

abbrev pub doing_heaps : Program → Doing → List Heap
doing_heaps p (Does i a) = act_heaps p i a
doing_heaps p (Calls i to f args) = []

abbrev pub heaps : Program → List Doing → List Heap
heaps p [] = []
heaps p (d ∷ ds) = doing_heaps p d ++ heaps p ds

abbrev pub function_heaps : Program → List Function → List Heap
function_heaps p [] = []
function_heaps p (f ∷ fs) = heaps p (body_doings f.body) ++ function_heaps p fs

abbrev pub site_locations : Program → List Heap → List TypedLocation
site_locations p [] = []
site_locations p (h ∷ hs) = rooted p (Site h.id) h.elements ++ site_locations p hs

abbrev pub result_parts : Program → ℕ → Option CType → List TypedLocation
result_parts p f None = []
result_parts p f (Some t) = rooted p (Result f) (shape_of t)

abbrev pub result_locations : Program → ℕ → List Function → List TypedLocation
result_locations p k [] = []
result_locations p k (f ∷ fs) = result_parts p k f.result ++ result_locations p (suc k) fs

abbrev pub input : TypedLocation
input = record { location = record { root = Input; path = [] }; type = void }

-- the locations of a program: the unread input, variables, sites and results, in text order
abbrev pub locations : Program → List TypedLocation
locations p =
    input ∷ (variable_locations p 0 p.vars ++ (site_locations p (function_heaps p p.functions) ++ result_locations p 0 p.functions))

abbrev pub same_root : Root → Root → Bool
same_root Input Input = true
same_root (Variable x) (Variable y) = x == y
same_root (Site i) (Site j) = i == j
same_root (Result f) (Result g) = f == g
same_root _ _ = false

abbrev pub same_part : Part → Part → Bool
same_part (part.Member i) (part.Member j) = i == j
same_part part.Element part.Element = true
same_part _ _ = false

-- whether two locations are one
abbrev pub same_location : Location → Location → Bool
same_location l m = same_root l.root m.root && same_all same_part l.path m.path
