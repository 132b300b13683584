-- A program and its slice as data, with the agreement of their memories up to a renaming of blocks.
use Rattle.std.specs.Prelude.{ℕ, List, Bool}
use Rattle.c_tree.specs.declared.statement.Target.{Target}
use Rattle.c_language.specs.Code.{Code}
use Rattle.c_meaning.specs.Activations.{Executable}
use Rattle.dep_model.specs.declared.location.Location.{Location}
use Rattle.dep_model.specs.DoingEffects.{result_of}
use Rattle.simulation.specs.Places.{Position}
use Rattle.simulation.specs.Renaming.{World, Grows, Names, BlocksStand, FramesStand, AlikeAt}
use Rattle.simulation.specs.Settings.{Vertex, Setting}

-- what a setting holds but for relations
pub record Slicing : Type 0 where
  pub original : Executable
  pub slice : Executable
  pub input : List ℕ
  pub names : Names
  pub function : ℕ → ℕ
  pub target : Target → Target
  pub project : ℕ → Code → Code
  pub outside : Location → Bool
  pub kept : Vertex Location → Bool
  pub keeps_move : (function : ℕ) → Code → Bool
  pub uses : Vertex Location → Location → Bool
  pub defines : Vertex Location → Location → Bool
  pub kills : Vertex Location → Location → Bool
  pub argument_uses : (function id callee : ℕ) → Location → Bool
  pub takes : ℕ → Location → Bool
  pub modifies : ℕ → Location → Bool
  pub criterion : ℕ → Bool
  pub ranks : ℕ → Bool

-- the setting where this is wanted, these functions hold the criterion, and memories agree up to a renaming
abbrev pub setting_of : (k : Slicing) → (Location → Position → Type 0) → (ℕ → Type 0) → Setting
setting_of k wanted holds = record {
  original = k.original;
  slice = k.slice;
  input = k.input;
  function = k.function;
  statement = k.names.statement;
  target = k.target;
  project = k.project;
  L = Location;
  result = result_of;
  outside = k.outside;
  kept = k.kept;
  keeps_move = k.keeps_move;
  uses = k.uses;
  defines = k.defines;
  kills = k.kills;
  argument_uses = k.argument_uses;
  takes = k.takes;
  modifies = k.modifies;
  wanted = wanted;
  criterion = k.criterion;
  ranks = k.ranks;
  holds = holds;
  W = World;
  Grows = Grows;
  Blocks = BlocksStand k.names;
  Frames = FramesStand k.names;
  Same = AlikeAt k.outside;
}
