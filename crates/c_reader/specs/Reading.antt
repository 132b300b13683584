-- The program and the tree of a text.
use Rattle.c_tree.specs.declared.program.Program.{Program}
use Rattle.c_tree.specs.declared.raw.program.RawProgram.{RawProgram}
use Rattle.c_language.specs.Words.{Bytes}
use Rattle.c_language.specs.TokenForms.{Tokens}
use Rattle.c_language.specs.Tokens.{AreTokensOf}
use Rattle.c_language.specs.Programs.{IsTreeOf, IsAccepted, IsWithinLimits}

-- the text is accepted, nesting, array lengths and object cells are within their numbers, and this is its program
pub record ReadsProgram (text : Bytes) (p : Program) : Type 0 where
  pub raw : RawProgram
  pub accepted : IsAccepted text raw p
  pub within : IsWithinLimits raw p

-- the tokens of the text are in the grammar, and this is their tree
pub record ReadsTree (text : Bytes) (raw : RawProgram) : Type 0 where
  pub tokens : Tokens
  pub are : AreTokensOf text tokens
  pub tree : IsTreeOf tokens raw
