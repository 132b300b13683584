-- What a call of the slicer promises, over its words, what shelf, out and err tell before it and after it, and its status.
use Rattle.std.specs.Prelude.{◌≡◌, ◌≢◌, ◌⊎◌, ℕ, List, Option, None, Some, IfSome, unwrap_or, length}
use Rattle.edge_io.specs.Contents.{Told, Lacks, HoldsMoreThan}
use Rattle.edge_io.specs.Count.{Rose}
use Rattle.edge_io.specs.Written.{Gains}
use Rattle.c_tree.specs.declared.limits.LimitName.{LimitName}
use Rattle.c_tree.specs.declared.limits.LimitName.TheVariants.{Nesting}
use Rattle.c_tree.specs.declared.program.Program.{Program}
use Rattle.c_language.specs.Words.{Bytes}
use Rattle.call_words.specs.Grammar.{IsInGrammar}
use Rattle.big_programs.specs.Generated.{generated}
use Rattle.call_words.specs.Requests.{Asked, asked_of, file_of, input_of}
use Rattle.slicer_top.specs.Due.{TellsDue}
use Rattle.slicer_top.specs.Files.{AreFetches, IsThere, OfFiles, NamesText}
use Rattle.slicer_top.specs.Limits.{IsAboveLimit, IsBelowLimits, IsDeep}
use Rattle.slicer_top.specs.Runs.{IsUndefined, NeedsMore}
use Rattle.slicer_top.specs.Seen.{ShelfSeen, SinkSeen, shelf_seen, sink_seen}
use Rattle.slicer_top.specs.Slices.{HasSmallGraph, HasStarts, StartsNone, StartsSome, AreWritten, joined, WritesAsked, WritesFront}
use Rattle.slicer_top.specs.Statuses.{IsOrYields, IsOrYieldsToFault, NoFault, IsFaultless}
use Rattle.slicer_top.specs.Lines.{PutOrCutOff, cannot_write, limit}
use Rattle.slicer_top.specs.declared.status.Status.{Status}
use Rattle.slicer_top.specs.declared.status.Status.TheVariants as status

-- all that a call promises but for the line that err gains
pub record Outcome (words : List Bytes) (shelf : ShelfSeen) (out err : SinkSeen) (answer : Status) : Type 0 where
  -- the words: Usage comes exactly where they are others
  pub usage : answer ≡ status.Usage → IsInGrammar words → ⊥
  pub other_words : (IsInGrammar words → ⊥) → IsOrYields err.faults err.faults' answer status.Usage
  pub unasked : (IsInGrammar words → ⊥) → shelf.stays
  -- the files, that with the text first: where one is lacking or too long, that is told; TooLong comes only where the shelf found one too long
  pub lacking : (name : Bytes) → IsInGrammar words → file_of words ≡ Some name → Lacks shelf.contents name → IsOrYields err.faults err.faults' answer status.ReadFault
  pub lacking_input : (name : Bytes) → IsInGrammar words → IsThere shelf.contents (asked_of words) → input_of (asked_of words) ≡ Some name → Lacks shelf.contents name
      → IsOrYields err.faults err.faults' answer status.ReadFault
  pub too_long : answer ≡ status.TooLong → Rose shelf.long_files shelf.long_files'
  pub longer_file : (name : Bytes) → IsInGrammar words → file_of words ≡ Some name → HoldsMoreThan shelf.contents name 1048576
      → IsOrYieldsToFault err.faults err.faults' shelf.faults shelf.faults' answer status.TooLong
  pub longer_input : (name : Bytes) → IsInGrammar words → IsThere shelf.contents (asked_of words) → input_of (asked_of words) ≡ Some name → HoldsMoreThan shelf.contents name 1048576
      → IsOrYieldsToFault err.faults err.faults' shelf.faults shelf.faults' answer status.TooLong
  -- the text: Refused comes where it isn't accepted or no statement starts on one of the lines, but for deep texts
  pub no_slice : (text input : Bytes) → NamesText words shelf.contents text input → IsBelowLimits text (asked_of words) → StartsNone text (asked_of words)
      → IsOrYieldsToFault err.faults err.faults' shelf.faults shelf.faults' answer status.Refused
      ⊎ ((answer ≡ status.Limit) × IsDeep text × Gains err.written err.written' (limit Nesting))
  -- the limits: Limit comes where a quantity of a text in the grammar is above its number, and names it
  pub above : (text input : Bytes) (name : LimitName) → NamesText words shelf.contents text input → IsAboveLimit text (asked_of words) name
      → IsOrYieldsToFault err.faults err.faults' shelf.faults shelf.faults' answer status.Limit
  pub names_limit : (text input : Bytes) (name : LimitName) → NamesText words shelf.contents text input → IsAboveLimit text (asked_of words) name → answer ≡ status.Limit
      → Gains err.written err.written' (limit name)
  -- the run: Undefined comes where an act of it is undefined, and Steps where it needs a further act
  pub undefined_act : (text input : Bytes) (p : Program) (statement : ℕ) → NamesText words shelf.contents text input → HasStarts text (asked_of words) p → IsUndefined (asked_of words) p input statement
      → IsOrYieldsToFault err.faults err.faults' shelf.faults shelf.faults' answer status.Undefined
  pub more_steps : (text input : Bytes) (p : Program) → NamesText words shelf.contents text input → HasStarts text (asked_of words) p → NeedsMore (asked_of words) p input
      → IsOrYieldsToFault err.faults err.faults' shelf.faults shelf.faults' answer status.Steps
  -- what is asked for: after Done it is written, slices in the order of the lines, and where no fault came and memory sufficed, Done comes
  pub done : answer ≡ status.Done → OfFiles shelf.contents (asked_of words) (λ text input. WritesAsked text (asked_of words) input out.written out.written')
  pub complete : (text input : Bytes) → NamesText words shelf.contents text input → StartsSome text (asked_of words) input
      → NoFault shelf.faults shelf.faults' → NoFault out.faults out.faults' → NoFault err.faults err.faults'
      → (answer ≡ status.Done) ⊎ (answer ≡ status.NoMemory)
  -- the program that a seed gives is always accepted
  pub complete_big : (seed size workers : ℕ) → IsInGrammar words → asked_of words ≡ Asked.big seed size workers → HasSmallGraph (generated seed size)
      → NoFault shelf.faults shelf.faults' → NoFault out.faults out.faults' → NoFault err.faults err.faults'
      → (answer ≡ status.Done) ⊎ (answer ≡ status.NoMemory)
  -- no fault comes where the shelf never fails, out has room for what is written and err for `out of memory`
  pub faultless : (text input : Bytes) → NamesText words shelf.contents text input → StartsSome text (asked_of words) input → shelf.never_fails
      → ((texts : List Bytes) → AreWritten text (asked_of words) input texts → out.takes (length (joined texts))) → err.takes 14
      → IsFaultless shelf.faults shelf.faults' out.faults out.faults' err.faults err.faults' answer
  -- the sinks: out is as it was but after Done and WriteFault
  pub write_fault : answer ≡ status.WriteFault → Rose out.faults out.faults' ⊎ Rose err.faults err.faults'
  pub unwritten : answer ≢ status.Done → answer ≢ status.WriteFault → out.stays
  pub cut : answer ≡ status.WriteFault
      → (out.stays × Rose err.faults err.faults')
      ⊎ (Rose out.faults out.faults'
      × OfFiles shelf.contents (asked_of words) (λ text input. WritesFront text (asked_of words) input out.written out.written')
      × PutOrCutOff err.faults err.faults' err.written err.written' cannot_write)
  pub silent : answer ≡ status.Done → err.stays
  -- the shelf holds what it held, and was asked at most once for the text, and then for the input where one is asked for
  pub contents : shelf.contents' ≡ shelf.contents
  pub fetched : (shelf.fetches' ≡ shelf.fetches) ⊎ AreFetches (asked_of words) shelf.fetches shelf.fetches'

-- all that a call promises: also that err has gained a line that is due for the status, or a front of a due line, so that a status comes only where a line of it is due
pub record Promises (words : List Bytes) (shelf : ShelfSeen) (out err : SinkSeen) (answer : Status) : Type 0 where
  pub outcome : Outcome words shelf out err answer
  pub tells : TellsDue words shelf out err answer

-- all that a call of the program promises, which may have ended before the call of the slicer: likewise, but that nothing was told where memory was wanting for the words
pub record CallPromises (words : List Bytes) (shelf : ShelfSeen) (out err : SinkSeen) (answer : Status) : Type 0 where
  pub outcome : Outcome words shelf out err answer
  pub tells : TellsDue words shelf out err answer ⊎ ((answer ≡ status.NoMemory) × err.stays)

-- what holds of a call of the slicer holds so of a call of the program, which may have ended before it, with nothing done; of a shelf and sinks that tell these things
abbrev pub CallsKeepPromises : {F O E : Type 0} → (F → ℕ) → (F → ℕ) → (F → ℕ) → (F → Told) → (F → Type 0) → (O → ℕ) → (O → Option Bytes) → (O → ℕ → Type 0) → (E → ℕ) → (E → Option Bytes) → (E → ℕ → Type 0) → Type 0
CallsKeepPromises {F} {O} {E} faults long_files fetches contents never_fails out_faults written out_takes err_faults told err_takes =
    (words : List Bytes) (shelf shelf' : F) (out out' : O) (err err' : E) (ended : Option Status)
    → IfSome ended (Promises words (shelf_seen faults long_files fetches contents never_fails shelf shelf') (sink_seen out_faults written out_takes out out') (sink_seen err_faults told err_takes err err'))
    → (ended ≡ None → (shelf' ≡ shelf) × (out' ≡ out) × (err' ≡ err))
    → CallPromises words (shelf_seen faults long_files fetches contents never_fails shelf shelf') (sink_seen out_faults written out_takes out out') (sink_seen err_faults told err_takes err err') (unwrap_or ended status.NoMemory)
