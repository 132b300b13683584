-- What the lines of a refusal and of a limit say of the text.
use Rattle.std.specs.Prelude.{ℕ}
use Rattle.c_tree.specs.declared.limits.LimitName.{LimitName}
use Rattle.c_tree.specs.declared.limits.LimitName.TheVariants as limit
use Rattle.c_tree.specs.declared.program.Program.{Program}
use Rattle.c_language.specs.Words.{Bytes}
use Rattle.c_lex.specs.declared.fault.LexFault.TheVariants as lex
use Rattle.c_parse.specs.declared.parse_fault.ParseFault.TheVariants as parse
use Rattle.c_types.specs.declared.rule_fault.RuleFault.TheVariants as fault
use Rattle.c_reader.specs.Reading.{ReadsProgram}
use Rattle.c_reader.specs.Refusals.{IsLexFault, HasParseFault, HasRuleFault}
use Rattle.call_words.specs.Requests.{Asked, steps_of}
use Rattle.slicer_top.specs.Limits.{CanBeDeep, IsAboveLimit}
use Rattle.slicer_top.specs.Lines as line
use Rattle.slicer_top.specs.Runs.{IsUndefinedAt, NeedsMore}
use Rattle.slicer_top.specs.Slices.{HasStarts, IsAboveFor, LacksStart}
use Rattle.slicer_top.specs.declared.status.Status.{Status}
use Rattle.slicer_top.specs.declared.status.Status.TheVariants.{Refused, Undefined, Steps, Limit}

-- what the line of the status says is true of the text, of which this is asked, and of the input
pub data IsTrueOf (text : Bytes) (asked : Asked) (input : Bytes) : Status → Bytes → Type 0 where
  -- the bytes show the fault at that line
  bad_byte : (at : ℕ) → IsLexFault text (lex.BadByte at) → IsTrueOf text asked input Refused (line.bad_byte at)
  bad_number : (at : ℕ) → IsLexFault text (lex.BadNumber at) → IsTrueOf text asked input Refused (line.bad_number at)
  open_comment : (at : ℕ) → IsLexFault text (lex.OpenComment at) → IsTrueOf text asked input Refused (line.open_comment at)
  -- that token at that line begins a construct that the language leaves out: the one because of which reading
  -- stopped, or the first that the tokens tell where reading did not stop
  left_out : (at : ℕ) (token : Bytes) → HasParseFault text (parse.LeftOut token at) → IsTrueOf text asked input Refused (line.left_out at token)
  -- the tokens have no tree, and reading stopped in that line
  syntax : (at : ℕ) → HasParseFault text (parse.Syntax at) → IsTrueOf text asked input Refused (line.syntax at)
  -- that rule is broken at that line, by the first phrase that breaks any, or main is missing where no phrase does
  rule : (number at : ℕ) → HasRuleFault text (fault.Rule number at) → IsTrueOf text asked input Refused (line.rule at number)
  -- this is the first of the lines on which no statement starts
  no_start : (at : ℕ) → LacksStart text asked at → IsTrueOf text asked input Refused (line.no_start at)
  -- the text can be deep
  deep : CanBeDeep text → IsTrueOf text asked input Limit (line.limit limit.Nesting)
  -- the quantity is above its number
  length : IsAboveLimit text asked limit.ArrayLength → IsTrueOf text asked input Limit (line.limit limit.ArrayLength)
  cells : IsAboveLimit text asked limit.ObjectCells → IsTrueOf text asked input Limit (line.limit limit.ObjectCells)
  graph : {p : Program} (name : LimitName) → ReadsProgram text p → IsAboveFor asked p name → IsTrueOf text asked input Limit (line.limit name)
  criteria : IsAboveLimit text asked limit.Criteria → IsTrueOf text asked input Limit (line.limit limit.Criteria)
  -- the text has a program as it is asked for, with a statement on each of the lines: an act of its run on the input is undefined, of that statement, which starts on that line
  undefined : (at statement : ℕ) {p : Program} → HasStarts text asked p → IsUndefinedAt asked p input at statement → IsTrueOf text asked input Undefined (line.undefined_act at statement)
  -- this run needs a further act
  steps : {p : Program} → HasStarts text asked p → NeedsMore asked p input → IsTrueOf text asked input Steps (line.more_steps (steps_of asked))
