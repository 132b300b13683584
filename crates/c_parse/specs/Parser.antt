-- What the parser may answer.
use Rattle.std.specs.Prelude.{◌≡◌, ℕ, ◌-◌, ◌≤◌, ◌<◌, min, [], length, slice_get, Contains, Option, Some, None, Result, Ok, Err, if◌then◌else◌, nat_le}
use Rattle.c_tree.specs.declared.raw.program.RawProgram.{RawProgram}
use Rattle.c_language.specs.Words.{Bytes}
use Rattle.c_language.specs.TokenForms.{Tokens}
use Rattle.c_language.specs.ItemGrammar.{IsProgram}
use Rattle.c_language.specs.Nesting.{nesting_tokens}
use Rattle.c_language.specs.StatementNesting.{program_nesting}
use Rattle.c_language.specs.LeftOut.{IsLeftOut, IsInGrammar}
use Rattle.c_language.specs.declared.token.Token.{Token}
use Rattle.c_parse_expr.specs.Outcome.{Outcome, Syntax, Deep}
use Rattle.c_parse_left_out.specs.Telling.{first_told}
use Rattle.c_parse_left_out.specs.Near.{left_out_near}
use Rattle.c_parse_expr.specs.declared.fault.Stop.{Stop}
use Rattle.c_parse_expr.specs.declared.fault.Stop.TheVariants as stop
use Rattle.c_parse.specs.declared.parse_fault.ParseFault.{ParseFault}
use Rattle.c_parse.specs.declared.parse_fault.ParseFault.TheVariants as fault

-- A tree is that of the tokens, which are in the grammar, and nests at most as deep as the limit; each fault has its cause.
abbrev pub IsRight : Tokens → ℕ → Result RawProgram ParseFault → Type 0
IsRight ts limit (Ok all) = IsProgram ts all × IsInGrammar ts × (program_nesting all ≤ limit)
IsRight ts limit (Err (fault.LeftOut text line)) = IsLeftOut ts text line
IsRight ts limit (Err (fault.Syntax line)) = (all : RawProgram) → IsProgram ts all → ⊥
IsRight ts limit (Err (fault.Nesting line)) = (limit < nesting_tokens ts) × ((all : RawProgram) → IsProgram ts all → limit < program_nesting all)
IsRight ts limit (Err fault.NoMemory) = Unit {0}

-- the tree, unless memory runs out
abbrev pub Gives : RawProgram → Result RawProgram ParseFault → Type 0
Gives all (Ok found) = found ≡ all
Gives all (Err fault.NoMemory) = Unit {0}
Gives all (Err (fault.LeftOut text line)) = ⊥
Gives all (Err (fault.Syntax line)) = ⊥
Gives all (Err (fault.Nesting line)) = ⊥

-- too deep, unless memory runs out
abbrev pub IsTooDeep : Result RawProgram ParseFault → Type 0
IsTooDeep (Ok found) = ⊥
IsTooDeep (Err fault.NoMemory) = Unit {0}
IsTooDeep (Err (fault.LeftOut text line)) = ⊥
IsTooDeep (Err (fault.Syntax line)) = ⊥
IsTooDeep (Err (fault.Nesting line)) = Unit {0}

-- a token stands in this line
abbrev pub IsLineOf : Tokens → ℕ → Type 0
IsLineOf ts line = (t : Token) × Contains ts t × (t.line ≡ line)

-- the line of a fault is that of a token
abbrev pub HasLine : Tokens → Result RawProgram ParseFault → Type 0
HasLine ts (Ok all) = Unit {0}
HasLine ts (Err fault.NoMemory) = Unit {0}
HasLine ts (Err (fault.LeftOut text line)) = IsLineOf ts line
HasLine ts (Err (fault.Syntax line)) = IsLineOf ts line
HasLine ts (Err (fault.Nesting line)) = IsLineOf ts line

-- A fault names this token, unless memory runs out.
abbrev pub Names : Token → ParseFault → Type 0
Names t (fault.LeftOut text line) = (t.text ≡ text) × (t.line ≡ line)
Names t (fault.Syntax line) = ⊥
Names t (fault.Nesting line) = ⊥
Names t fault.NoMemory = Unit {0}

-- ---- where reading stops

abbrev pub up_to : ℕ → Option ℕ → Option ℕ → Option ℕ
up_to stop None other = other
up_to stop (Some at) other = if nat_le at stop then Some at else other

-- where a construct begins because of which reading stopped at a place: the first one that its tokens tell, where it
-- begins there or before, or else one without a production near the place
unfoldable pub left_out : Tokens → ℕ → Option ℕ
left_out ts stop = up_to stop (first_told 0 [] ts) (left_out_near ts stop)

-- where the construct begins that is named, by what was read
abbrev pub named : Tokens → Outcome RawProgram → Option ℕ
named ts (Ok p) = first_told 0 [] ts
named ts (Err (Syntax left)) = left_out ts (length ts - left)
named ts (Err Deep) = None

abbrev pub some_line : Option Token → ℕ
some_line None = 0
some_line (Some t) = t.line

-- the line of the token before which so many are left, or of the last one
unfoldable pub line_before : ℕ → Tokens → ℕ
line_before left ts = some_line (slice_get ts (min (length ts - left) (length ts - 1)))

-- the token at a place has this text and stands in this line
abbrev pub StandsAt : Tokens → ℕ → Bytes → ℕ → Type 0
StandsAt ts at text line = (t : Token) × (slice_get ts at ≡ Some t) × (t.text ≡ text) × (t.line ≡ line)

-- A fault names the construct that begins at a place, unless memory runs out.
abbrev pub NamesAt : Tokens → ℕ → ParseFault → Type 0
NamesAt ts at (fault.LeftOut text line) = IsLeftOut ts text line × StandsAt ts at text line
NamesAt ts at (fault.Syntax line) = ⊥
NamesAt ts at (fault.Nesting line) = ⊥
NamesAt ts at fault.NoMemory = Unit {0}

-- What is answered by what was read, unless memory runs out.
abbrev pub Answers : Tokens → Outcome RawProgram → Result RawProgram ParseFault → Type 0
Answers ts outcome (Ok all) = (rest : Tokens) × (outcome ≡ Ok (all, rest)) × (first_told 0 [] ts ≡ None)
Answers ts outcome (Err (fault.LeftOut text line)) = IsLeftOut ts text line × ((at : ℕ) × (named ts outcome ≡ Some at) × StandsAt ts at text line)
Answers ts outcome (Err (fault.Syntax line)) = (left : ℕ) × (outcome ≡ Err (Syntax left)) × (named ts outcome ≡ None) × (line ≡ line_before left ts)
Answers ts outcome (Err (fault.Nesting line)) = outcome ≡ Err Deep
Answers ts outcome (Err fault.NoMemory) = Unit {0}

-- What is read of all the tokens, of which a rest may be left.
abbrev pub ReadsAll : Outcome RawProgram → Result RawProgram Stop → Type 0
ReadsAll outcome (Ok all) = (rest : Tokens) × (outcome ≡ Ok (all, rest))
ReadsAll outcome (Err stop.Memory) = Unit {0}
ReadsAll outcome (Err (stop.Syntax left)) = outcome ≡ Err (Syntax left)
ReadsAll outcome (Err (stop.Deep left)) = outcome ≡ Err Deep
