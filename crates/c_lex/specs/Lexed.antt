-- What is answered of a text, by its tokens and its faults alone.
use Rattle.std.specs.Prelude.{◌≡◌, Result, Ok, Err}
use Rattle.std.specs.declared.vec.Vec.{Vec}
use Rattle.std.specs.declared.alloc.Global.{Global}
use Rattle.c_language.specs.Words.{Bytes}
use Rattle.c_language.specs.TokenForms.{Tokens}
use Rattle.c_language.specs.Tokens.{AreTokensOf}
use Rattle.c_language.specs.declared.token.Token as token
use Rattle.c_language.specs.declared.token.Before.TheVariants.{Blank}
use Rattle.c_lex.specs.declared.fault.LexFault.{LexFault}
use Rattle.c_lex.specs.declared.fault.LexFault.TheVariants.{BadByte, BadNumber, OpenComment, NoMemory}
use Rattle.c_lex.specs.Faults.{IsFault}

-- The answer is the tokens of the text, or a fault that its bytes show, or memory ran out.
abbrev pub IsLexed : Bytes → Result (Vec token.Token Global) LexFault → Type 0
IsLexed text (Ok v) = AreTokensOf text v.items
IsLexed text (Err NoMemory) = Unit {0}
IsLexed text (Err (BadByte line)) = IsFault Blank 1 text (BadByte line)
IsLexed text (Err (BadNumber line)) = IsFault Blank 1 text (BadNumber line)
IsLexed text (Err (OpenComment line)) = IsFault Blank 1 text (OpenComment line)

-- What is answered of a text that has these tokens: them, or that memory ran out.
abbrev pub Gives : Tokens → Result (Vec token.Token Global) LexFault → Type 0
Gives ts (Ok v) = v.items ≡ ts
Gives ts (Err NoMemory) = Unit {0}
Gives ts (Err (BadByte line)) = ⊥
Gives ts (Err (BadNumber line)) = ⊥
Gives ts (Err (OpenComment line)) = ⊥
