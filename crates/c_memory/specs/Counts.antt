-- Numbers of cells as 64 bits hold them.
use Rattle.std.specs.Prelude.{◌≡◌, ◌*◌, ℕ, nat_lt, min, List, [], ◌∷◌, length, map, Option, Some, None, if◌then◌else◌, unwrap_or, slice_get}
use Rattle.std.specs.Option.{option_map_or}
use Rattle.c_language.specs.declared.expr_type.Base.{Base}
use Rattle.c_language.specs.declared.expr_type.Layer.{Layer}
use Rattle.c_language.specs.declared.expr_type.Layer.TheVariants.{Pointer, Array}
use Rattle.c_language.specs.declared.expr_type.ExprType.{ExprType}
use Rattle.c_language.specs.ExprTypes.{struct_of}
use Rattle.c_meaning.specs.Cells.{Structs, layered_cells}

-- the number, or the greatest of 64 bits where it is above that
abbrev pub saturated : ℕ → ℕ
saturated n = min n 18446744073709551615

abbrev pub counted : List ExprType → ℕ
counted ts = saturated (length ts)

-- the numbers of the cells of struct types
abbrev pub AreCounts : List ℕ → List (List ExprType) → Type 0
AreCounts counts known = counts ≡ map counted known

-- the types of the members of a struct type; another type has none
abbrev pub members_at : Structs → ExprType → List ExprType
members_at structs t = option_map_or (λ (s : ℕ). unwrap_or (slice_get structs s) []) (struct_of t) []

-- how many cells stand before an element, where there is such an element
abbrev pub element_offset : List (List ExprType) → ℕ → List Layer → Base → Option ℕ
element_offset known i [] b = None
element_offset known i (Pointer ∷ ls) b = None
element_offset known i (Array n ∷ ls) b = if nat_lt i n then Some (i * length (layered_cells known ls b)) else None
