-- What is said of the texts that are generated.
use Rattle.std.specs.Prelude.{ℕ, ◌<◌, ◌≤◌, ◌^◌, length}
use Rattle.c_tree.specs.declared.program.Program.{Program}
use Rattle.c_reader.specs.Reading.{ReadsProgram}
use Rattle.big_programs.specs.Generated.{generated}

-- the text that a seed gives, with one function or more beside main, is accepted, and within the limits on nesting, arrays and objects; its program has a statement
abbrev pub GeneratedIsAccepted : Type 0
GeneratedIsAccepted = (seed size : ℕ) → 0 < size → size < 2 ^ 64 → (p : Program) × ReadsProgram (generated seed size) p × (0 < p.statements)

-- the text that a seed gives, with at most 1,000 functions beside main, has at most 1,048,576 bytes
abbrev pub GeneratedIsShort : Type 0
GeneratedIsShort = (seed size : ℕ) → size ≤ 1000 → length (generated seed size) ≤ 1048576
