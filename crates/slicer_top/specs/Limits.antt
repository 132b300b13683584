-- The quantities of a text that have a greatest number, and the texts that can nest too deep.
use Rattle.std.specs.Prelude.{◌<◌, ◌≤◌}
use Rattle.c_tree.specs.declared.limits.LimitName.{LimitName}
use Rattle.c_tree.specs.declared.limits.LimitName.TheVariants as limit
use Rattle.c_tree.specs.declared.program.Program.{Program}
use Rattle.c_tree.specs.declared.raw.program.RawProgram.{RawProgram}
use Rattle.c_language.specs.Words.{Bytes}
use Rattle.c_language.specs.TokenForms.{Tokens}
use Rattle.c_language.specs.Tokens.{AreTokensOf}
use Rattle.c_language.specs.ItemGrammar.{IsProgram}
use Rattle.c_language.specs.Nesting.{nesting_tokens}
use Rattle.c_language.specs.StatementNesting.{program_nesting}
use Rattle.c_language.specs.Limits.{array_length, object_cells}
use Rattle.c_language.specs.Programs as programs
use Rattle.call_words.specs.Requests.{Asked}
use Rattle.c_reader.specs.Reading.{ReadsTree, ReadsProgram}
use Rattle.slicer_top.specs.Slices.{AsksTooMany, IsAboveFor}

-- the tokens of the text are in the grammar, and this quantity is above its number: nesting before all, then, where all rules hold, the length of an array, then the cells of an object, then the graph's quantities, where the graph is made, and then how many lines were asked for
pub data IsAboveLimit (text : Bytes) (asked : Asked) : LimitName → Type 0 where
  nesting : {raw : RawProgram} → ReadsTree text raw → 100 < program_nesting raw → IsAboveLimit text asked limit.Nesting
  length : {raw : RawProgram} {p : Program} → ReadsTree text raw → program_nesting raw ≤ 100 → programs.HasProgram raw p → 65536 < array_length p → IsAboveLimit text asked limit.ArrayLength
  cells : {raw : RawProgram} {p : Program} → ReadsTree text raw → program_nesting raw ≤ 100 → programs.HasProgram raw p → array_length p ≤ 65536 → 1048576 < object_cells p → IsAboveLimit text asked limit.ObjectCells
  graph : {p : Program} {name : LimitName} → ReadsProgram text p → IsAboveFor asked p name → IsAboveLimit text asked name
  criteria : AsksTooMany text asked → IsAboveLimit text asked limit.Criteria

-- no quantity of the text is above its number
abbrev pub IsBelowLimits : Bytes → Asked → Type 0
IsBelowLimits text asked = (name : LimitName) → IsAboveLimit text asked name → ⊥

-- the text holds more than 100 nesting tokens, and each tree of its tokens nests deeper than 100
pub record CanBeDeep (text : Bytes) : Type 0 where
  pub tokens : Tokens
  pub are : AreTokensOf text tokens
  pub many : 100 < nesting_tokens tokens
  pub above : (raw : RawProgram) → IsProgram tokens raw → 100 < program_nesting raw

-- a deep text: one outside the grammar that holds more than 100 nesting tokens
pub record IsDeep (text : Bytes) : Type 0 where
  pub tokens : Tokens
  pub are : AreTokensOf text tokens
  pub many : 100 < nesting_tokens tokens
  pub no_tree : (raw : RawProgram) → ReadsTree text raw → ⊥
