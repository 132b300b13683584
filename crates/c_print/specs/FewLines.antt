-- The lines of a layout can be counted.
use Rattle.std.specs.Prelude.{◌+◌, ◌<◌, ◌≤◌, ◌^◌, length}
use Rattle.c_tree.specs.declared.program.Program.{Program}
use Rattle.c_language.specs.Layout.{layout}
use Rattle.c_print.specs.Lines.{line_count}

-- a layout of at most 2 to the 32 bytes has fewer than 2 to the 32 less one lines
abbrev pub HaveFewLines : Type 0
HaveFewLines = (p : Program) → length (layout p) ≤ 2 ^ 32 → line_count p + 1 < 2 ^ 32
