-- The tree of a text is syntax.
use Rattle.c_tree.specs.declared.raw.program.RawProgram.{RawProgram}
use Rattle.c_language.specs.Programs.{IsTree}
use Rattle.c_language.specs.Syntax.{IsSyntax}

-- a tree that some tokens have in the grammar, among which no left-out construct begins, is syntax
abbrev pub TextIsSyntax : Type 0
TextIsSyntax = (raw : RawProgram) → IsTree raw → IsSyntax raw
