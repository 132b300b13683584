-- The line of each statement of a program in its layout.
use Rattle.std.specs.Prelude.{ℕ, ◌<◌}
use Rattle.c_tree.specs.declared.program.Program.{Program}
use Rattle.c_language.specs.Programs.{IsWellFormed}
use Rattle.c_print.specs.Feedless.{IsFeedless}
use Rattle.c_print.specs.Lines.{line_of}
use Rattle.c_print.specs.StartsOn.{StartsOn}

-- no text of a well-formed program holds a line feed
abbrev pub TextsAreFeedless : Type 0
TextsAreFeedless = (p : Program) → IsWellFormed p → IsFeedless p

-- each number below the count of statements is that of a statement in the layout, which starts on the line of the number
abbrev pub StatementsStart : Type 0
StatementsStart = (p : Program) → IsWellFormed p → (id : ℕ) → id < p.statements → StartsOn p id (line_of p id)
