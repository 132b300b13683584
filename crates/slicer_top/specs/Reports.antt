-- Why a file gives nothing of what is asked, and how that is told.
use Rattle.std.specs.Prelude.{◌≡◌, ◌⊎◌, ℕ, [], Option, IsSome, IsSomeAnd, unwrap_or}
use Rattle.edge_io.specs.Contents.{Told, Lacks, HoldsMoreThan}
use Rattle.edge_io.specs.Count.{Rose}
use Rattle.edge_io.specs.Written.{Gains}
use Rattle.c_tree.specs.declared.limits.LimitName.TheVariants as limit
use Rattle.c_tree.specs.declared.program.Program.{Program}
use Rattle.c_language.specs.Words.{Bytes}
use Rattle.c_lex.specs.declared.fault.LexFault.{LexFault}
use Rattle.c_lex.specs.declared.fault.LexFault.TheVariants as lex
use Rattle.c_parse.specs.declared.parse_fault.ParseFault.{ParseFault}
use Rattle.c_parse.specs.declared.parse_fault.ParseFault.TheVariants as parse
use Rattle.c_types.specs.declared.rule_fault.RuleFault.{RuleFault}
use Rattle.c_types.specs.declared.rule_fault.RuleFault.TheVariants as rule
use Rattle.c_reader.specs.Reading.{ReadsProgram}
use Rattle.c_reader.specs.Refusals.{IsLexFault, HasParseFault, HasRuleFault}
use Rattle.call_words.specs.Requests.{Asked, file_in, input_of, steps_of}
use Rattle.slicer_top.specs.declared.refusal.Refusal.{Refusal}
use Rattle.slicer_top.specs.declared.refusal.Refusal.TheVariants.{Unreadable, TooLong, NoInput, LongInput, Lex, Parse, Check, NoStart, Graph, TooMany, UndefinedAct, MoreSteps, NoMemory}
use Rattle.slicer_top.specs.declared.status.Status.{Status}
use Rattle.slicer_top.specs.declared.status.Status.TheVariants as status
use Rattle.slicer_top.specs.Files.{AreShort, IsThere, OfFiles}
use Rattle.slicer_top.specs.Slices.{HasStarts, IsAboveFor, LacksStart, AsksTooMany}
use Rattle.slicer_top.specs.Lines as line
use Rattle.slicer_top.specs.Runs.{IsUndefinedAt, NeedsMore}

-- the text shows the refusal, where this is asked of it, with this input
abbrev pub IsReason : Bytes → Asked → Bytes → Refusal → Type 0
IsReason text asked input Unreadable = ⊥
IsReason text asked input TooLong = ⊥
IsReason text asked input NoInput = ⊥
IsReason text asked input LongInput = ⊥
IsReason text asked input (Lex fault) = IsLexFault text fault
IsReason text asked input (Parse fault) = HasParseFault text fault
IsReason text asked input (Check fault) = HasRuleFault text fault
IsReason text asked input (NoStart line) = LacksStart text asked line
IsReason text asked input (Graph name) = (p : Program) × ReadsProgram text p × IsAboveFor asked p name
IsReason text asked input TooMany = AsksTooMany text asked
IsReason text asked input (UndefinedAct at statement) = (p : Program) × HasStarts text asked p × IsUndefinedAt asked p input at statement
IsReason text asked input MoreSteps = (p : Program) × HasStarts text asked p × NeedsMore asked p input
IsReason text asked input NoMemory = Unit {0}

-- each text with this program shows the refusal
abbrev pub IsReasonOf : Program → Asked → Bytes → Refusal → Type 0
IsReasonOf p asked input refusal = (text : Bytes) → ReadsProgram text p → IsReason text asked input refusal

-- the files hold a text and an input that show the refusal
abbrev pub IsShown : Told → Asked → Refusal → Type 0
IsShown told asked refusal = OfFiles told asked (λ text input. AreShort text input × IsReason text asked input refusal)

-- the counts of faults and of long files before and after fetches
module _ (told : Told) (faults faults' long_files long_files' : ℕ) where
  -- a file couldn't be read, or it is too long
  abbrev pub IsUnread : Bytes → Type 0
  IsUnread name = Rose faults faults' ⊎ Lacks told name

  abbrev pub IsLong : Bytes → Type 0
  IsLong name = Rose long_files long_files' × (IsSome told → HoldsMoreThan told name 1048576)

  -- the cause of a refusal for the file with the text
  abbrev pub IsTextFault : Option Bytes → Refusal → Type 0
  IsTextFault name Unreadable = IsSomeAnd name IsUnread
  IsTextFault name TooLong = IsSomeAnd name IsLong
  IsTextFault name NoMemory = Unit {0}
  IsTextFault name NoInput = ⊥
  IsTextFault name LongInput = ⊥
  IsTextFault name (Lex fault) = ⊥
  IsTextFault name (Parse fault) = ⊥
  IsTextFault name (Check fault) = ⊥
  IsTextFault name (NoStart line) = ⊥
  IsTextFault name (Graph name') = ⊥
  IsTextFault name TooMany = ⊥
  IsTextFault name (UndefinedAct at statement) = ⊥
  IsTextFault name MoreSteps = ⊥

  -- the cause of a refusal for the file with the input
  abbrev pub IsInputFault : Option Bytes → Refusal → Type 0
  IsInputFault name NoInput = IsSomeAnd name IsUnread
  IsInputFault name LongInput = IsSomeAnd name IsLong
  IsInputFault name NoMemory = Unit {0}
  IsInputFault name Unreadable = ⊥
  IsInputFault name TooLong = ⊥
  IsInputFault name (Lex fault) = ⊥
  IsInputFault name (Parse fault) = ⊥
  IsInputFault name (Check fault) = ⊥
  IsInputFault name (NoStart line) = ⊥
  IsInputFault name (Graph name') = ⊥
  IsInputFault name TooMany = ⊥
  IsInputFault name (UndefinedAct at statement) = ⊥
  IsInputFault name MoreSteps = ⊥

-- the cause of a refusal: these counts, or the bytes of the files; of the input, where the text is there
module _ (told : Told) (asked : Asked) (faults faults' long_files long_files' : ℕ) where
  abbrev Unread : Bytes → Type 0
  Unread = IsUnread told faults faults' long_files long_files'

  abbrev Long : Bytes → Type 0
  Long = IsLong told faults faults' long_files long_files'

  abbrev pub IsCause : Refusal → Type 0
  IsCause Unreadable = IsSomeAnd (file_in asked) Unread
  IsCause TooLong = IsSomeAnd (file_in asked) Long
  IsCause NoInput = IsThere told asked × IsSomeAnd (input_of asked) Unread
  IsCause LongInput = IsThere told asked × IsSomeAnd (input_of asked) Long
  IsCause (Lex fault) = IsShown told asked (Lex fault)
  IsCause (Parse fault) = IsShown told asked (Parse fault)
  IsCause (Check fault) = IsShown told asked (Check fault)
  IsCause (NoStart line) = IsShown told asked (NoStart line)
  IsCause (Graph name) = IsShown told asked (Graph name)
  IsCause TooMany = IsShown told asked TooMany
  IsCause (UndefinedAct at statement) = IsShown told asked (UndefinedAct at statement)
  IsCause MoreSteps = IsShown told asked MoreSteps
  IsCause NoMemory = Unit {0}

-- a refusal for a file that couldn't be read means that it is lacking
abbrev pub IsMissing : Told → Asked → Refusal → Type 0
IsMissing told asked Unreadable = IsSomeAnd (file_in asked) (Lacks told)
IsMissing told asked NoInput = IsSomeAnd (input_of asked) (Lacks told)
IsMissing told asked TooLong = Unit {0}
IsMissing told asked LongInput = Unit {0}
IsMissing told asked (Lex fault) = Unit {0}
IsMissing told asked (Parse fault) = Unit {0}
IsMissing told asked (Check fault) = Unit {0}
IsMissing told asked (NoStart l) = Unit {0}
IsMissing told asked (Graph name) = Unit {0}
IsMissing told asked TooMany = Unit {0}
IsMissing told asked (UndefinedAct at statement) = Unit {0}
IsMissing told asked MoreSteps = Unit {0}
IsMissing told asked NoMemory = Unit {0}

-- the status of a refusal
abbrev pub lex_status : LexFault → Status
lex_status (lex.BadByte at) = status.Refused
lex_status (lex.BadNumber at) = status.Refused
lex_status (lex.OpenComment at) = status.Refused
lex_status lex.NoMemory = status.NoMemory

abbrev pub parse_status : ParseFault → Status
parse_status (parse.LeftOut token at) = status.Refused
parse_status (parse.Syntax at) = status.Refused
parse_status (parse.Nesting at) = status.Limit
parse_status parse.NoMemory = status.NoMemory

abbrev pub rule_status : RuleFault → Status
rule_status (rule.Rule number at) = status.Refused
rule_status (rule.Limit name) = status.Limit
rule_status rule.NoMemory = status.NoMemory

abbrev pub status_of : Refusal → Status
status_of Unreadable = status.ReadFault
status_of TooLong = status.TooLong
status_of NoInput = status.ReadFault
status_of LongInput = status.TooLong
status_of (Lex fault) = lex_status fault
status_of (Parse fault) = parse_status fault
status_of (Check fault) = rule_status fault
status_of (NoStart line) = status.Refused
status_of (Graph name) = status.Limit
status_of TooMany = status.Limit
status_of (UndefinedAct at statement) = status.Undefined
status_of MoreSteps = status.Steps
status_of NoMemory = status.NoMemory

-- its line on err
abbrev pub lex_line : LexFault → Bytes
lex_line (lex.BadByte at) = line.bad_byte at
lex_line (lex.BadNumber at) = line.bad_number at
lex_line (lex.OpenComment at) = line.open_comment at
lex_line lex.NoMemory = line.out_of_memory

abbrev pub parse_line : ParseFault → Bytes
parse_line (parse.LeftOut token at) = line.left_out at token
parse_line (parse.Syntax at) = line.syntax at
parse_line (parse.Nesting at) = line.limit limit.Nesting
parse_line parse.NoMemory = line.out_of_memory

abbrev pub rule_line : RuleFault → Bytes
rule_line (rule.Rule number at) = line.rule at number
rule_line (rule.Limit name) = line.limit name
rule_line rule.NoMemory = line.out_of_memory

-- the names of its files
abbrev pub file_name : Asked → Bytes
file_name asked = unwrap_or (file_in asked) []

abbrev pub input_name : Asked → Bytes
input_name asked = unwrap_or (input_of asked) []

abbrev pub words_of : Asked → Refusal → Bytes
words_of asked Unreadable = line.cannot_read (file_name asked)
words_of asked TooLong = line.too_long (file_name asked)
words_of asked NoInput = line.cannot_read (input_name asked)
words_of asked LongInput = line.too_long (input_name asked)
words_of asked (Lex fault) = lex_line fault
words_of asked (Parse fault) = parse_line fault
words_of asked (Check fault) = rule_line fault
words_of asked (NoStart at) = line.no_start at
words_of asked (Graph name) = line.limit name
words_of asked TooMany = line.limit limit.Criteria
words_of asked (UndefinedAct at statement) = line.undefined_act at statement
words_of asked MoreSteps = line.more_steps (steps_of asked)
words_of asked NoMemory = line.out_of_memory

-- the line was put and the status is this one, or the put failed
module _ (faults faults' : ℕ) (before after : Option Bytes) where
  abbrev pub PutsLine : Status → Bytes → Status → Type 0
  PutsLine answer words result = ((result ≡ answer) × Gains before after words) ⊎ ((result ≡ status.WriteFault) × line.CutOff faults faults' before after words)

  -- the refusal was told, or that memory was wanting for its line
  abbrev pub IsReported : Asked → Refusal → Status → Type 0
  IsReported asked refusal result =
      PutsLine (status_of refusal) (words_of asked refusal) result ⊎ PutsLine status.NoMemory line.out_of_memory result
