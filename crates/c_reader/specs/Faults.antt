-- What a fault of the lexer, of the parser and of the check is to the reading of a text.
use Rattle.c_lex.specs.declared.fault.LexFault.{LexFault}
use Rattle.c_lex.specs.declared.fault.LexFault.TheVariants as lex
use Rattle.c_parse.specs.declared.parse_fault.ParseFault.{ParseFault}
use Rattle.c_parse.specs.declared.parse_fault.ParseFault.TheVariants as parse
use Rattle.c_types.specs.declared.rule_fault.RuleFault.{RuleFault}
use Rattle.c_types.specs.declared.rule_fault.RuleFault.TheVariants as rule
use Rattle.c_reader.specs.declared.refusal.ReadRefusal.{ReadRefusal}
use Rattle.c_reader.specs.declared.refusal.ReadRefusal.TheVariants.{Lex, Parse, Check, NoMemory}

abbrev pub of_lexer : LexFault → ReadRefusal
of_lexer (lex.BadByte line) = Lex (lex.BadByte line)
of_lexer (lex.BadNumber line) = Lex (lex.BadNumber line)
of_lexer (lex.OpenComment line) = Lex (lex.OpenComment line)
of_lexer lex.NoMemory = NoMemory

abbrev pub of_parser : ParseFault → ReadRefusal
of_parser (parse.LeftOut token line) = Parse (parse.LeftOut token line)
of_parser (parse.Syntax line) = Parse (parse.Syntax line)
of_parser (parse.Nesting line) = Parse (parse.Nesting line)
of_parser parse.NoMemory = NoMemory

abbrev pub of_check : RuleFault → ReadRefusal
of_check (rule.Rule number line) = Check (rule.Rule number line)
of_check (rule.Limit name) = Check (rule.Limit name)
of_check rule.NoMemory = NoMemory
