-- What is left of a tree that is syntax is syntax, and what stays of a text is left of its tree.
use Rattle.std.specs.Prelude.{◌≤◌}
use Rattle.c_tree.specs.declared.program.Program.{Program}
use Rattle.c_tree.specs.declared.raw.program.RawProgram.{RawProgram}
use Rattle.c_language.specs.Programs.{IsTree, HasProgram, IsWithinLimits, IsWellFormed}
use Rattle.c_language.specs.StatementNesting.{program_nesting}
use Rattle.c_language.specs.Syntax.{IsSyntax}
use Rattle.c_language.specs.Words.{Bytes}
use Rattle.projection.specs.Kept.{Kept}
use Rattle.projection.specs.Projection.{projected_program}
use Rattle.c_scope_laws.specs.Following.{kept_numbers}
use Rattle.c_scope_laws.specs.ThinnedTexts.{KeepsText, thinned_text}
use Rattle.thinned_syntax.specs.Left.{ItemsLeft}

-- what is left of a tree that is syntax, when parts of it are taken away, is syntax
abbrev pub LeftIsSyntax : Type 0
LeftIsSyntax = (raw some : RawProgram) → ItemsLeft raw.items some.items → IsSyntax raw → IsSyntax some

-- what is left of a tree nests no deeper than the tree
abbrev pub LeftNestsLess : Type 0
LeftNestsLess = (raw some : RawProgram) → ItemsLeft raw.items some.items → program_nesting some ≤ program_nesting raw

-- what stays of a text is left of its tree, where what is kept is a text
abbrev pub ThinnedIsLeft : Type 0
ThinnedIsLeft = (k : Kept Bytes) (raw : RawProgram) → KeepsText k raw → ItemsLeft raw.items (thinned_text k raw).items

-- of the tree of some tokens, what stays is the tree of some tokens, where what is kept is a text
abbrev pub ThinnedIsTree : Type 0
ThinnedIsTree = (k : Kept Bytes) (raw : RawProgram) → IsTree raw → KeepsText k raw → IsTree (thinned_text k raw)

-- what stays of the program of a tree that is syntax, within the limits, is well formed, where what is kept is a text
abbrev pub ThinnedIsWellFormed : Type 0
ThinnedIsWellFormed = (k : Kept Bytes) (raw : RawProgram) (p : Program) → IsSyntax raw → HasProgram raw p → IsWithinLimits raw p → KeepsText k raw → IsWellFormed (projected_program (kept_numbers k raw) p)
