-- The types that a text's declarators write (ISO C99 6.7.5), and the struct types and functions that the text defines.
use Rattle.std.specs.Prelude.{ℕ, zero, suc, ℤ, pos, negsuc, Bool, true, false, List, [], ◌∷◌, length, map, Option, Some, None, option_map, option_and_then, bytes_eq}
use Rattle.std.specs.List.{position, find, list_any}
use Rattle.c_arith.specs.declared.int_type.IntType.{IntType}
use Rattle.c_tree.specs.declared.raw.expr.RawLength.{RawLength}
use Rattle.c_tree.specs.declared.raw.expr.RawLength.TheVariants as length_of
use Rattle.c_tree.specs.declared.raw.expr.RawType.{RawType, fold-RawType}
use Rattle.c_tree.specs.declared.raw.expr.RawType.TheOpen.{RawType-F}
use Rattle.c_tree.specs.declared.raw.expr.RawVar.{RawVar}
use Rattle.c_tree.specs.declared.raw.program.RawInit.{RawInit}
use Rattle.c_tree.specs.declared.raw.program.RawInit.TheVariants as init
use Rattle.c_tree.specs.declared.raw.program.RawMember.{RawMember}
use Rattle.c_tree.specs.declared.raw.program.RawParam.{RawParam}
use Rattle.c_tree.specs.declared.raw.program.RawHead.{RawHead}
use Rattle.c_tree.specs.declared.raw.program.RawItem.{RawItem}
use Rattle.c_tree.specs.declared.raw.program.RawItem.TheVariants.{Include, Tag, Struct, Global, Prototype, Define}
use Rattle.c_tree.specs.declared.raw.program.RawProgram.{RawProgram}
use Rattle.c_language.specs.Words.{Bytes}
use Rattle.c_language.specs.ConstantEvaluation.{value_of_constant}
use Rattle.c_language.specs.declared.expr_type.Layer.{Layer}
use Rattle.c_language.specs.declared.expr_type.Layer.TheVariants.{Pointer, Array}
use Rattle.c_language.specs.declared.expr_type.Base.{Base}
use Rattle.c_language.specs.declared.expr_type.Base.TheVariants as base
use Rattle.c_language.specs.declared.expr_type.ExprType.{ExprType}

-- a struct type as the text defines it
pub record StructText : Type 0 where
  pub tag : Bytes
  pub members : List RawMember

abbrev pub struct_texts : List RawItem → List StructText
struct_texts [] = []
struct_texts (Include is_stdlib ∷ rest) = struct_texts rest
struct_texts (Tag line name ∷ rest) = struct_texts rest
struct_texts (Struct line name members ∷ rest) = record { tag = name; members = members } ∷ struct_texts rest
struct_texts (Global line var i is_static ∷ rest) = struct_texts rest
struct_texts (Prototype line head ∷ rest) = struct_texts rest
struct_texts (Define line head body ∷ rest) = struct_texts rest

abbrev pub function_texts : List RawItem → List RawHead
function_texts [] = []
function_texts (Include is_stdlib ∷ rest) = function_texts rest
function_texts (Tag line name ∷ rest) = function_texts rest
function_texts (Struct line name members ∷ rest) = function_texts rest
function_texts (Global line var i is_static ∷ rest) = function_texts rest
function_texts (Prototype line head ∷ rest) = function_texts rest
function_texts (Define line head body ∷ rest) = head ∷ function_texts rest

-- the struct types that a text defines, in text order
abbrev pub defined_structs : RawProgram → List StructText
defined_structs raw = struct_texts raw.items

-- the heads of the functions that a text defines, in text order
abbrev pub defined_functions : RawProgram → List RawHead
defined_functions raw = function_texts raw.items

-- the number of the struct type with the tag
abbrev pub struct_id : RawProgram → Bytes → Option ℕ
struct_id raw tag = position (λ (s : StructText). bytes_eq s.tag tag) (defined_structs raw)

-- the number of the function with the name
abbrev pub function_id : RawProgram → Bytes → Option ℕ
function_id raw name = position (λ (f : RawHead). bytes_eq f.name name) (defined_functions raw)

-- the head of the definition of the function with the name
abbrev pub definition_of : RawProgram → Bytes → Option RawHead
definition_of raw name = find (λ (f : RawHead). bytes_eq f.name name) (defined_functions raw)

abbrev pub of_base : Base → ExprType
of_base b = record { layers = []; base = b }

abbrev pub with_layer : Layer → ExprType → ExprType
with_layer l t = record { layers = l ∷ t.layers; base = t.base }

abbrev pub integer : IntType → ExprType
integer t = of_base (base.Integer t)

abbrev pub pointer_to : ExprType → ExprType
pointer_to = with_layer Pointer

abbrev pub void : ExprType
void = of_base base.Void

-- the lengths that an array can have (6.7.5.2)
abbrev pub positive : ℤ → Option ℕ
positive (pos zero) = None
positive (pos (suc n)) = Some (suc n)
positive (negsuc n) = None

-- the length of an array, where a list of initialisers has so many items (6.7.8, paragraph 22)
abbrev pub length_in : ℕ → RawLength → Option ℕ
length_in items (length_of.Written e) = option_and_then positive (value_of_constant e)
length_in items length_of.Listed = Some items

abbrev pub type_step : RawProgram → ℕ → RawType-F (Option ExprType) → Option ExprType
type_step raw items (RawType-F.Integer t) = Some (integer t)
type_step raw items (RawType-F.PointerTo a) = option_map pointer_to a
type_step raw items (RawType-F.Array a n) =
    option_and_then (λ (t : ExprType). option_map (λ (k : ℕ). with_layer (Array k) t) (length_in items n)) a
type_step raw items (RawType-F.Struct tag) = option_map (λ (s : ℕ). of_base (base.Struct s)) (struct_id raw tag)

-- a type as it is written: None where its tag isn't defined, or a length is no constant of at least 1
abbrev pub type_with : RawProgram → ℕ → RawType → Option ExprType
type_with raw items = fold-RawType (Option ExprType) (type_step raw items)

abbrev pub written_type : RawProgram → RawType → Option ExprType
written_type raw = type_with raw 0

abbrev pub item_count : RawInit → ℕ
item_count init.None = 0
item_count (init.One e) = 0
item_count (init.Items es) = length es

-- the type of a declared variable
abbrev pub variable_type : RawProgram → RawVar → RawInit → Option ExprType
variable_type raw var i = type_with raw (item_count i) var.shape

abbrev pub type_or_void : RawProgram → Option RawType → Option ExprType
type_or_void raw None = Some void
type_or_void raw (Some t) = written_type raw t

-- the type of a function's result, void where it has none
abbrev pub result_type : RawProgram → RawHead → Option ExprType
result_type raw head = type_or_void raw head.result

abbrev pub parameter_types : RawProgram → RawHead → List (Option ExprType)
parameter_types raw head = map (λ (p : RawParam). written_type raw p.shape) head.params

abbrev pub is_include : Bool → RawItem → Bool
is_include true (Include true) = true
is_include false (Include false) = true
is_include _ _ = false

-- whether the text includes stdio.h
abbrev pub has_stdio : RawProgram → Bool
has_stdio raw = list_any (is_include false) raw.items

-- whether the text includes stdlib.h
abbrev pub has_stdlib : RawProgram → Bool
has_stdlib raw = list_any (is_include true) raw.items
