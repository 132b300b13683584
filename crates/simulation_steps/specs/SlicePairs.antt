-- A program and a slice of it, with all that the laws on their runs ask of them.
use Rattle.std.specs.Prelude.{◌≡◌, ℕ, List, map, Bool}
use Rattle.std.specs.List.{range_with_len}
use Rattle.c_tree.specs.declared.program.Program.{Program}
use Rattle.c_language.specs.Programs.{IsWellFormed}
use Rattle.dep_model.specs.Doings.{doing_number, program_doings}
use Rattle.dep_model.specs.SystemGraph.{Analysis, IsAnalysis}
use Rattle.projection.specs.Kept.{Kept}
use Rattle.simulation.specs.Settings.{Setting}
use Rattle.simulation_locations.specs.Chained.{Counterpart, chained}
use Rattle.simulation_places.specs.ProjectedCode.{Numbering}
use Rattle.simulation_places.specs.Counterparts.{names_of, AreApart, counterpart_of, AreProjected}
use Rattle.simulation_places.specs.LikeParts.{HasLikeParts}
use Rattle.simulation_steps.specs.Likeness.{HasLikeActs}
use Rattle.simulation_steps.specs.LikeCalls.{HasLikeCalls}
use Rattle.simulation_steps.specs.OwnGlobals.{HasOwnGlobals}

-- a well-formed program with its analysis, a set of its vertices and what that keeps; a slice that has this, and which numbers it has there;
-- an input on which both run, and statements of a criterion, with those that have it in the slice
pub record SlicePair : Type 0 where
  pub original : Program
  pub analysis : Analysis
  pub vertices : List Bool
  pub kept : Kept ℕ
  pub slice : Program
  pub new : Numbering
  pub input : List ℕ
  pub criterion : ℕ → Bool
  pub ranks : ℕ → Bool
  pub well : IsWellFormed original
  pub numbered : map doing_number (program_doings original) ≡ range_with_len 0 original.statements
  pub own : HasOwnGlobals original
  pub analysed : IsAnalysis original analysis
  pub apart : AreApart (names_of kept new)
  pub projected : AreProjected original slice analysis kept new vertices
  pub parts : HasLikeParts original slice kept new
  pub acts : HasLikeActs original slice kept new
  pub calls : HasLikeCalls original slice analysis kept new vertices

abbrev pub twin_of : SlicePair → Counterpart
twin_of pair = counterpart_of pair.slice pair.kept pair.new pair.input pair.criterion pair.ranks

-- the law on slices at the two, where these functions hold the criterion
abbrev pub setting_over : SlicePair → (ℕ → Type 0) → Setting
setting_over pair holds = chained pair.original pair.analysis pair.vertices (twin_of pair) holds
