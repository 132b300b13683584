-- A program with what its functions modify and use, as the listing of its vertices sees it.
use Rattle.std.specs.Prelude.{◌≡◌, ℕ, length, Bool, ◌&&◌, ◌||◌, not, Option}
use Rattle.c_tree.specs.declared.program.Program.{Program}
use Rattle.c_language.specs.Mains.{main_of, is_main_of}
use Rattle.dep_model.specs.declared.points_to.Effects.{Effects}
use Rattle.dep_model.specs.Denoted.{Places}
use Rattle.dep_model.specs.LocationLists.{AreListedOnce}
use Rattle.dep_model.specs.LocationRows.{effects_of, HasEffectRows}
use Rattle.dep_model.specs.Locations.{locations}
use Rattle.dep_model.specs.ModRef.{FunctionEffects}
use Rattle.dep_model.specs.VertexOrder.{has_result}
use Rattle.vertex_layout.specs.declared.seen.Touch.{Touch}
use Rattle.vertex_layout.specs.declared.seen.Touch.TheVariants as touch

pub record SeenProgram : Type 0 where
  pub program : Program
  pub rows : Effects

-- what each function modifies and uses
abbrev pub effects_in : SeenProgram → FunctionEffects
effects_in s = effects_of s.program s.rows

-- the program lists no location twice, the rows have its size, and its locations are counted and its main found
pub record IsSeen (p : Program) (e : Effects) (count : ℕ) (main : Option ℕ) : Type 0 where
  pub once : AreListedOnce p
  pub rows_are : HasEffectRows p e
  pub count_is : count ≡ length (locations p)
  pub main_is : main ≡ main_of p

-- what a function modifies, or what it modifies or uses
abbrev pub touches : FunctionEffects → Touch → ℕ → Places
touches e touch.Modified f = e.modified f
touches e touch.Either f = λ l. e.modified f l || e.used f l

-- void functions and main give their calls no result
abbrev pub gives_result : Program → ℕ → Bool
gives_result p f = has_result p f && not (is_main_of p f)
