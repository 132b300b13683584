-- The accepted texts and their programs, and what each call that takes a program may assume.
use Rattle.std.specs.Prelude.{◌≡◌, ℕ, ◌≤◌, Some, All}
use Rattle.c_tree.specs.Unlined.{SameButLines}
use Rattle.c_tree.specs.declared.program.Program.{Program}
use Rattle.c_tree.specs.declared.raw.program.RawProgram.{RawProgram}
use Rattle.c_language.specs.Words.{Bytes}
use Rattle.c_language.specs.TokenForms.{Tokens}
use Rattle.c_language.specs.Tokens.{IsToken, AreTokensOf}
use Rattle.c_language.specs.ItemGrammar.{IsProgram}
use Rattle.c_language.specs.StatementNesting.{program_nesting}
use Rattle.c_language.specs.LeftOut.{IsLeftOut}
use Rattle.c_language.specs.Rules.{KeepsRules}
use Rattle.c_language.specs.ProgramOf.{program_of}
use Rattle.c_language.specs.Limits.{array_length, object_cells}
use Rattle.c_language.specs.declared.token.Before.{Before}
use Rattle.c_language.specs.declared.token.Token.{Token}

-- a token has a text of its kind: it is a token of some bytes
pub record IsFormed (t : Token) : Type 0 where
  pub before : Before
  pub own : Bytes
  pub rest : Bytes
  pub is : IsToken before t.kind own t.text rest

-- the tokens are in the grammar with this tree, and no construct that the language leaves out begins among them
pub record IsTreeOf (ts : Tokens) (raw : RawProgram) : Type 0 where
  pub formed : All IsFormed ts
  pub grammar : IsProgram ts raw
  pub whole : (text : Bytes) (line : ℕ) → IsLeftOut ts text line → ⊥

-- the tree of some tokens
pub record IsTree (raw : RawProgram) : Type 0 where
  pub tokens : Tokens
  pub is : IsTreeOf tokens raw

-- the tree keeps all rules, and this is its program
pub record HasProgram (raw : RawProgram) (p : Program) : Type 0 where
  pub rules : KeepsRules raw
  pub program : program_of raw ≡ Some p

-- nesting, array lengths and object cells are within their numbers
pub record IsWithinLimits (raw : RawProgram) (p : Program) : Type 0 where
  pub nesting : program_nesting raw ≤ 100
  pub lengths : array_length p ≤ 65536
  pub cells : object_cells p ≤ 1048576

-- the bytes are an accepted text with this tree and this program
pub record IsAccepted (text : Bytes) (raw : RawProgram) (p : Program) : Type 0 where
  pub tokens : Tokens
  pub are : AreTokensOf text tokens
  pub tree : IsTreeOf tokens raw
  pub has : HasProgram raw p

-- but for line numbers, the program is that of a tree of tokens that keeps all rules and limits
pub record IsWellFormed (p : Program) : Type 0 where
  pub raw : RawProgram
  pub same : Program
  pub tree : IsTree raw
  pub has : HasProgram raw same
  pub within : IsWithinLimits raw same
  pub but_lines : SameButLines p same
