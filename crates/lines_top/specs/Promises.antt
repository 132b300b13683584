-- What a call for kept lines promises, over its words, what shelf, out and err tell before it and after it, and its status.
use Rattle.std.specs.Prelude.{◌≡◌, ◌≢◌, ◌⊎◌, List, codes}
use Rattle.edge_io.specs.Count.{Rose, one_more}
use Rattle.edge_io.specs.Written.{Gains, GainsFront}
use Rattle.c_language.specs.Words.{Bytes}
use Rattle.call_words.specs.Requests.{asked_of}
use Rattle.lines_top.specs.Texts.{IsCause, IsWritten, OfFile}
use Rattle.lines_top.specs.Words.{AskForLines, as_slice, file_of, lines_of}
use Rattle.slicer_top.specs.Lines as line
use Rattle.slicer_top.specs.Lines.{CutOff}
use Rattle.slicer_top.specs.Reports.{status_of, words_of}
use Rattle.slicer_top.specs.Seen.{ShelfSeen, SinkSeen}
use Rattle.slicer_top.specs.declared.refusal.Refusal.{Refusal}
use Rattle.slicer_top.specs.declared.status.Status.{Status}
use Rattle.slicer_top.specs.declared.status.Status.TheVariants.{Done, Usage, WriteFault, NoMemory}

-- the words are outside the grammar
abbrev pub usage_line : Bytes
usage_line = codes "usage: slice_lines FILE LINE..\n"

-- this line is due for this status, where the call had these words and saw this of the shelf and of out; none is due for Done
pub data IsDue (words : List Bytes) (shelf : ShelfSeen) (out : SinkSeen) : Status → Bytes → Type 0 where
  -- the words are outside the grammar
  usage : (AskForLines words → ⊥) → IsDue words shelf out Usage usage_line
  -- there is a cause for a refusal, which has this status and this line
  refused : (r : Refusal) → AskForLines words
      → IsCause shelf.contents shelf.faults shelf.faults' shelf.long_files shelf.long_files' (file_of words) (lines_of words) r
      → IsDue words shelf out (status_of r) (words_of (asked_of (as_slice words)) r)
  -- the put on out failed
  unwritten : AskForLines words → Rose out.faults out.faults' → IsDue words shelf out WriteFault line.cannot_write
  -- memory was wanting
  no_memory : IsDue words shelf out NoMemory line.out_of_memory

module _ (words : List Bytes) (shelf : ShelfSeen) (out err : SinkSeen) where
  -- err has gained a line that is due for this status
  abbrev pub PutsDue : Status → Type 0
  PutsDue answer = (told : Bytes) × IsDue words shelf out answer told × Gains err.written err.written' told

  -- a put on err failed, and err has gained a front of a line that is due for some status
  abbrev pub CutsDue : Type 0
  CutsDue = (due : Status) × (told : Bytes) × IsDue words shelf out due told × CutOff err.faults err.faults' err.written err.written' told

-- what is asked for of the file, and of it that it was gained
abbrev pub WritesAsked : List Bytes → ShelfSeen → (Bytes → Type 0) → Type 0
WritesAsked words shelf gained = OfFile shelf.contents (file_of words) (λ text. (written : Bytes) × IsWritten text (lines_of words) written × gained written)

-- all that a call promises
pub record LinesPromises (words : List Bytes) (shelf : ShelfSeen) (out err : SinkSeen) (answer : Status) : Type 0 where
  -- after Done the words are in the grammar, and what is asked for is written
  pub grammar : answer ≡ Done → AskForLines words
  pub done : answer ≡ Done → WritesAsked words shelf (Gains out.written out.written')
  -- any other status comes with a line that is due for it, or after WriteFault with a front of a due line
  pub tells : answer ≢ Done → PutsDue words shelf out err answer ⊎ ((answer ≡ WriteFault) × CutsDue words shelf out err)
  pub silent : answer ≡ Done → err.stays
  -- out is as it was but after Done and WriteFault, after which it may have a front of what is asked for
  pub unwritten : answer ≢ Done → answer ≢ WriteFault → out.stays
  pub cut : answer ≡ WriteFault
      → (out.stays × Rose err.faults err.faults')
      ⊎ (Rose out.faults out.faults' × WritesAsked words shelf (GainsFront out.written out.written'))
  -- the shelf holds what it held, and was asked at most once, and only where the words name a file
  pub contents : shelf.contents' ≡ shelf.contents
  pub fetched : (shelf.fetches' ≡ shelf.fetches) ⊎ (shelf.fetches' ≡ one_more shelf.fetches)
  pub unasked : (AskForLines words → ⊥) → shelf.stays
