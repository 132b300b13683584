-- The parts of a program that are kept, as the code marks them.
use Rattle.std.specs.Prelude.{◌≡◌, ℕ, Bool, false, ◌&&◌, List, slice_get}
use Rattle.std.specs.Option.{option_map_or}
use Rattle.bit_rows.specs.Sets.{has}
use Rattle.named_variables.specs.Marks.{Adds}
use Rattle.dep_model.specs.declared.vertex.Vertex.{Vertex}
use Rattle.dep_model.specs.FunctionVertices.{is_own, is_entry, passes}
use Rattle.projection.specs.declared.parts.KeptParts.{KeptParts}
use Rattle.projection.specs.Kept.{KeptWords}
use Rattle.kept_numbers.specs.Pairs.{marked, AddsPairs}
use Rattle.projection.specs.KeptVertices.{is_result, is_argument, is_parameter, holds}

-- the words that are kept
abbrev pub words_of : KeptParts → KeptWords
words_of m = record { statement = has m.statements.items; result = has m.results.items; argument = marked m.arguments }

-- the second have the parts of the first, and the one that a vertex keeps
pub record AddsVertex (old new : KeptParts) (v : Vertex) : Type 0 where
  pub statements : Adds old.statements.items new.statements.items (λ i. is_own i v.kind)
  pub results : Adds old.results.items new.results.items (λ i. is_result i v.kind)
  pub arguments : AddsPairs old.arguments new.arguments (λ i n. is_argument i n v.kind)
  pub functions : Adds old.functions.items new.functions.items (λ f. passes is_entry f v)
  pub parameters : AddsPairs old.parameters new.parameters (λ f n. passes (is_parameter n) f v)

-- the vertex with this number is in the set, and passes the test
abbrev pub holds_at : List Bool → (Vertex → Bool) → ℕ → List Vertex → Bool
holds_at set test n vs = has set n && option_map_or test (slice_get vs n) false

-- the second have the parts of the first, and the one that the vertex with this number keeps, where it is in the set
pub record AddsAt (set : List Bool) (vs : List Vertex) (n : ℕ) (old new : KeptParts) : Type 0 where
  pub statements : Adds old.statements.items new.statements.items (λ i. holds_at set (λ (v : Vertex). is_own i v.kind) n vs)
  pub results : Adds old.results.items new.results.items (λ i. holds_at set (λ (v : Vertex). is_result i v.kind) n vs)
  pub arguments : AddsPairs old.arguments new.arguments (λ i m. holds_at set (λ (v : Vertex). is_argument i m v.kind) n vs)
  pub functions : Adds old.functions.items new.functions.items (λ f. holds_at set (passes is_entry f) n vs)
  pub parameters : AddsPairs old.parameters new.parameters (λ f m. holds_at set (passes (is_parameter m) f) n vs)

-- they are those that a set of vertices keeps
pub record AreKept (vs : List Vertex) (set : List Bool) (m : KeptParts) : Type 0 where
  pub statements : (i : ℕ) → has m.statements.items i ≡ holds set (λ (v : Vertex). is_own i v.kind) 0 vs
  pub results : (i : ℕ) → has m.results.items i ≡ holds set (λ (v : Vertex). is_result i v.kind) 0 vs
  pub arguments : (i n : ℕ) → marked m.arguments i n ≡ holds set (λ (v : Vertex). is_argument i n v.kind) 0 vs
  pub functions : (f : ℕ) → has m.functions.items f ≡ holds set (passes is_entry f) 0 vs
  pub parameters : (f n : ℕ) → marked m.parameters f n ≡ holds set (passes (is_parameter n) f) 0 vs
