-- What the reading of a text answers, and which refusals a text shows.
use Rattle.std.specs.Prelude.{◌≡◌, ◌<◌, ◌≤◌, Result, Ok, Err}
use Rattle.std.specs.declared.vec.Vec.{Vec}
use Rattle.std.specs.declared.alloc.Global.{Global}
use Rattle.c_tree.specs.declared.program.Program.{Program}
use Rattle.c_tree.specs.declared.raw.program.RawProgram.{RawProgram}
use Rattle.c_language.specs.Words.{Bytes}
use Rattle.c_language.specs.TokenForms.{Tokens}
use Rattle.c_language.specs.Tokens.{AreTokensOf}
use Rattle.c_language.specs.ItemGrammar.{IsProgram}
use Rattle.c_language.specs.LeftOut.{IsLeftOut}
use Rattle.c_language.specs.Nesting.{nesting_tokens}
use Rattle.c_language.specs.StatementNesting.{program_nesting}
use Rattle.c_language.specs.Programs.{IsTreeOf}
use Rattle.c_language.specs.Rules.{IsBroken}
use Rattle.c_language.specs.declared.token.Before.TheVariants.{Blank}
use Rattle.c_language.specs.declared.token.Token.{Token}
use Rattle.c_lex.specs.declared.fault.LexFault.{LexFault}
use Rattle.c_lex.specs.declared.fault.LexFault.TheVariants as lex
use Rattle.c_lex.specs.Faults.{IsFault}
use Rattle.c_parse.specs.ItemReading as reading
use Rattle.c_parse.specs.Parser.{IsLineOf, Answers}
use Rattle.c_parse.specs.declared.parse_fault.ParseFault.{ParseFault}
use Rattle.c_parse.specs.declared.parse_fault.ParseFault.TheVariants as parse
use Rattle.c_types.specs.Checker.{IsAbove, IsWithinNumbers, IsFirst}
use Rattle.c_types.specs.declared.rule_fault.RuleFault.{RuleFault}
use Rattle.c_types.specs.declared.rule_fault.RuleFault.TheVariants as rule
use Rattle.c_reader.specs.declared.refusal.ReadRefusal.{ReadRefusal}
use Rattle.c_reader.specs.declared.refusal.ReadRefusal.TheVariants.{Lex, Parse, Check, NoMemory}
use Rattle.c_reader.specs.Reading.{ReadsProgram, ReadsTree}

-- the bytes show the fault
abbrev pub IsLexFault : Bytes → LexFault → Type 0
IsLexFault text (lex.BadByte line) = IsFault Blank 1 text (lex.BadByte line)
IsLexFault text (lex.BadNumber line) = IsFault Blank 1 text (lex.BadNumber line)
IsLexFault text (lex.OpenComment line) = IsFault Blank 1 text (lex.OpenComment line)
IsLexFault text lex.NoMemory = ⊥

-- the tokens show the fault, whose line is that of a token
abbrev pub IsParseFault : Tokens → ParseFault → Type 0
IsParseFault ts (parse.LeftOut name line) = IsLeftOut ts name line × IsLineOf ts line
IsParseFault ts (parse.Syntax line) = ((raw : RawProgram) → IsProgram ts raw → ⊥) × IsLineOf ts line
IsParseFault ts (parse.Nesting line) = (100 < nesting_tokens ts) × ((raw : RawProgram) → IsProgram ts raw → 100 < program_nesting raw) × IsLineOf ts line
IsParseFault ts parse.NoMemory = ⊥

-- the tree shows the fault
abbrev pub IsRuleFault : RawProgram → RuleFault → Type 0
IsRuleFault raw (rule.Rule number line) = IsBroken number line raw
IsRuleFault raw (rule.Limit name) = IsAbove raw name
IsRuleFault raw rule.NoMemory = ⊥

-- the fault is the one that is told of the tokens, by what is read of them and where reading stops
abbrev pub IsToldOf : Tokens → ParseFault → Type 0
IsToldOf ts fault = Answers ts (reading.program 100 ts) (Err fault)

-- the tokens of the text show the fault, and it is the one that is told of them
pub record HasParseFault (text : Bytes) (fault : ParseFault) : Type 0 where
  pub tokens : Tokens
  pub are : AreTokensOf text tokens
  pub shows : IsParseFault tokens fault
  pub told : IsToldOf tokens fault

-- the tree of the text, which nests no deeper than 100, shows the fault, and no rule is broken before one that is told
pub record HasRuleFault (text : Bytes) (fault : RuleFault) : Type 0 where
  pub raw : RawProgram
  pub tree : ReadsTree text raw
  pub nesting : program_nesting raw ≤ 100
  pub shows : IsRuleFault raw fault
  pub first : IsFirst raw fault

-- the program of the text, or a refusal that the text shows
abbrev pub IsRight : Bytes → Result Program ReadRefusal → Type 0
IsRight text (Ok p) = ReadsProgram text p
IsRight text (Err (Lex fault)) = IsLexFault text fault
IsRight text (Err (Parse fault)) = HasParseFault text fault
IsRight text (Err (Check fault)) = HasRuleFault text fault
IsRight text (Err NoMemory) = Unit {0}

-- this program is answered, unless memory runs out
abbrev pub Gives : Program → Result Program ReadRefusal → Type 0
Gives p (Ok q) = q ≡ p
Gives p (Err (Lex fault)) = ⊥
Gives p (Err (Parse fault)) = ⊥
Gives p (Err (Check fault)) = ⊥
Gives p (Err NoMemory) = Unit {0}

abbrev pub IsNesting : ParseFault → Type 0
IsNesting (parse.LeftOut name line) = ⊥
IsNesting (parse.Syntax line) = ⊥
IsNesting (parse.Nesting line) = Unit {0}
IsNesting parse.NoMemory = ⊥

-- the nesting is refused, unless memory runs out
abbrev pub IsTooDeep : Result Program ReadRefusal → Type 0
IsTooDeep (Ok q) = ⊥
IsTooDeep (Err (Lex fault)) = ⊥
IsTooDeep (Err (Parse fault)) = IsNesting fault
IsTooDeep (Err (Check fault)) = ⊥
IsTooDeep (Err NoMemory) = Unit {0}

-- a fault of the rules or the limits is answered, unless memory runs out
abbrev pub IsChecked : Result Program ReadRefusal → Type 0
IsChecked (Ok q) = ⊥
IsChecked (Err (Lex fault)) = ⊥
IsChecked (Err (Parse fault)) = ⊥
IsChecked (Err (Check fault)) = Unit {0}
IsChecked (Err NoMemory) = Unit {0}

-- ---- what its three parts answer

abbrev pub Lexes : Bytes → Result (Vec Token Global) ReadRefusal → Type 0
Lexes text (Ok v) = AreTokensOf text v.items
Lexes text (Err (Lex fault)) = IsLexFault text fault
Lexes text (Err (Parse fault)) = ⊥
Lexes text (Err (Check fault)) = ⊥
Lexes text (Err NoMemory) = Unit {0}

-- the one tree of the tokens, which nests no deeper than 100
pub record IsReadTree (ts : Tokens) (raw : RawProgram) : Type 0 where
  pub tree : IsTreeOf ts raw
  pub only : (other : RawProgram) → IsProgram ts other → raw ≡ other
  pub nesting : program_nesting raw ≤ 100

abbrev pub Parses : Tokens → Result RawProgram ReadRefusal → Type 0
Parses ts (Ok raw) = IsReadTree ts raw
Parses ts (Err (Lex fault)) = ⊥
Parses ts (Err (Parse fault)) = IsParseFault ts fault × IsToldOf ts fault
Parses ts (Err (Check fault)) = ⊥
Parses ts (Err NoMemory) = Unit {0}

abbrev pub Checks : RawProgram → Result Program ReadRefusal → Type 0
Checks raw (Ok p) = IsWithinNumbers raw p
Checks raw (Err (Lex fault)) = ⊥
Checks raw (Err (Parse fault)) = ⊥
Checks raw (Err (Check fault)) = IsRuleFault raw fault × IsFirst raw fault
Checks raw (Err NoMemory) = Unit {0}

-- the tokens and their tree
pub record IsReadAs (text : Bytes) (tokens : Tokens) (raw : RawProgram) : Type 0 where
  pub are : AreTokensOf text tokens
  pub read : IsReadTree tokens raw

-- what is answered, with the tokens and the tree that it is answered for
abbrev pub IsAnswer : Bytes → Result Program ReadRefusal → Type 0
IsAnswer text (Ok p) = (ts : Tokens) × (raw : RawProgram) × IsReadAs text ts raw × IsWithinNumbers raw p
IsAnswer text (Err (Lex fault)) = IsLexFault text fault
IsAnswer text (Err (Parse fault)) = HasParseFault text fault
IsAnswer text (Err (Check fault)) = (ts : Tokens) × (raw : RawProgram) × IsReadAs text ts raw × IsRuleFault raw fault × IsFirst raw fault
IsAnswer text (Err NoMemory) = Unit {0}
