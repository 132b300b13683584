-- A tree that is syntax is the tree of a text, what is printed of it is read again, and well-formed programs are those that have such trees.
use Rattle.std.specs.Prelude.{◌≤◌}
use Rattle.c_tree.specs.declared.program.Program.{Program}
use Rattle.c_tree.specs.Unlined.{SameButLines}
use Rattle.c_tree.specs.declared.raw.program.RawProgram.{RawProgram}
use Rattle.c_language.specs.Words.{Bytes}
use Rattle.c_language.specs.TokenForms.{Tokens}
use Rattle.c_language.specs.Tokens.{AreTokensOf}
use Rattle.c_language.specs.StatementNesting.{program_nesting}
use Rattle.c_language.specs.Syntax.{IsSyntax}
use Rattle.c_language.specs.Programs.{IsTree, IsTreeOf, HasProgram, IsWithinLimits, IsWellFormed}
use Rattle.c_text_layout.specs.RawLayout.{raw_layout}
use Rattle.c_text_layout.specs.Settled.{SameInLayout}
use Rattle.c_text_layout.specs.Declarations.{HasShortLists}

-- the bytes have tokens in the grammar, with no left-out construct, whose tree is the same in all that the layout keeps, and nests no deeper
pub record HasTreeLike (text : Bytes) (raw : RawProgram) : Type 0 where
  pub tokens : Tokens
  pub found : RawProgram
  pub are : AreTokensOf text tokens
  pub tree : IsTreeOf tokens found
  pub same : SameInLayout found raw
  pub nesting : program_nesting found ≤ program_nesting raw

-- a tree that is syntax is the tree of some tokens in the grammar, with no left-out construct
abbrev pub SyntaxIsTree : Type 0
SyntaxIsTree = (raw : RawProgram) → IsSyntax raw → IsTree raw

-- the layout of a tree that is syntax is a text with a tree like it, where its lists of initialisers are short
abbrev pub SyntaxIsReadAgain : Type 0
SyntaxIsReadAgain = (raw : RawProgram) → IsSyntax raw → HasShortLists raw → HasTreeLike (raw_layout raw) raw

-- but for line numbers, the program is that of a tree that is syntax and keeps all rules and limits
pub record HasSyntax (p : Program) : Type 0 where
  pub raw : RawProgram
  pub same : Program
  pub syntax : IsSyntax raw
  pub has : HasProgram raw same
  pub within : IsWithinLimits raw same
  pub but_lines : SameButLines p same

-- a program is well formed where it has syntax, and only there
abbrev pub WellFormedHasSyntax : Type 0
WellFormedHasSyntax = (p : Program) → (IsWellFormed p → HasSyntax p) × (HasSyntax p → IsWellFormed p)
