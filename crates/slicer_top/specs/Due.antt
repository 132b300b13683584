-- Which line is due on err, by what a call has seen, and what err has gained of it.
use Rattle.std.specs.Prelude.{◌≡◌, ◌≢◌, ◌⊎◌, List, IsSome}
use Rattle.edge_io.specs.Contents.{Lacks, HoldsMoreThan}
use Rattle.edge_io.specs.Count.{Rose}
use Rattle.edge_io.specs.Written.{Gains}
use Rattle.c_language.specs.Words.{Bytes}
use Rattle.call_words.specs.Grammar.{IsInGrammar}
use Rattle.call_words.specs.Requests.{asked_of}
use Rattle.slicer_top.specs.Files.{AreShort, IsNameOf, OfFiles}
use Rattle.slicer_top.specs.Lines as line
use Rattle.slicer_top.specs.Lines.{CutOff}
use Rattle.slicer_top.specs.Seen.{ShelfSeen, SinkSeen}
use Rattle.slicer_top.specs.Truths.{IsTrueOf}
use Rattle.slicer_top.specs.declared.status.Status.{Status}
use Rattle.slicer_top.specs.declared.status.Status.TheVariants.{Done, Usage, ReadFault, WriteFault, NoMemory, TooLong}

-- this line is due for this status, where the call had these words and saw this of the shelf and of out; none is due for Done
pub data IsDue (words : List Bytes) (shelf : ShelfSeen) (out : SinkSeen) : Status → Bytes → Type 0 where
  -- the words are outside the grammar
  usage : (IsInGrammar words → ⊥) → IsDue words shelf out Usage line.usage
  -- the shelf had a fault, or lacks this file: that with the text or, where a text that isn't too long is there, that with the input
  unreadable : (name : Bytes) → IsInGrammar words → IsNameOf shelf.contents (asked_of words) name
      → Rose shelf.faults shelf.faults' ⊎ Lacks shelf.contents name → IsDue words shelf out ReadFault (line.cannot_read name)
  -- the shelf found a file too long: this one of the two, which holds more than 1,048,576 bytes where contents are told
  too_long : (name : Bytes) → IsInGrammar words → IsNameOf shelf.contents (asked_of words) name
      → Rose shelf.long_files shelf.long_files' → (IsSome shelf.contents → HoldsMoreThan shelf.contents name 1048576)
      → IsDue words shelf out TooLong (line.too_long name)
  -- the line is true of the text and of the input that the files hold, neither of which is too long
  of_files : {answer : Status} {told : Bytes} → IsInGrammar words
      → OfFiles shelf.contents (asked_of words) (λ text input. AreShort text input × IsTrueOf text (asked_of words) input answer told)
      → IsDue words shelf out answer told
  -- a put on out failed
  unwritten : IsInGrammar words → Rose out.faults out.faults' → IsDue words shelf out WriteFault line.cannot_write
  -- memory was wanting
  no_memory : IsDue words shelf out NoMemory line.out_of_memory

module _ (words : List Bytes) (shelf : ShelfSeen) (out err : SinkSeen) where
  -- err has gained a line that is due for this status
  abbrev pub PutsDue : Status → Type 0
  PutsDue answer = (told : Bytes) × IsDue words shelf out answer told × Gains err.written err.written' told

  -- a put on err failed, and err has gained a front of a line that is due for some status
  abbrev pub CutsDue : Type 0
  CutsDue = (due : Status) × (told : Bytes) × IsDue words shelf out due told × CutOff err.faults err.faults' err.written err.written' told

  -- what err has gained when a call ends other than Done: a due line of the status, or after WriteFault a front of a due line
  abbrev pub TellsDue : Status → Type 0
  TellsDue answer = answer ≢ Done → PutsDue answer ⊎ ((answer ≡ WriteFault) × CutsDue)
