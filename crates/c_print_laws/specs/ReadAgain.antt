-- What is printed of the program of a text is read again.
use Rattle.std.specs.Prelude.{◌≡◌, ◌==◌, ◌++◌, Bool, true, not, codes, Some}
use Rattle.std.specs.List.{list_all}
use Rattle.c_tree.specs.declared.program.Program.{Program}
use Rattle.c_tree.specs.Unlined.{SameButLines}
use Rattle.c_tree.specs.declared.raw.program.RawProgram.{RawProgram}
use Rattle.c_language.specs.Words.{Bytes}
use Rattle.c_language.specs.Syntax.{IsSyntax}
use Rattle.c_language.specs.Rules.{KeepsRules}
use Rattle.c_language.specs.ProgramOf.{program_of}
use Rattle.c_language.specs.Layout.{layout}
use Rattle.c_language.specs.Limits.{array_length, object_cells}
use Rattle.c_language.specs.Programs.{IsAccepted, IsWithinLimits, IsWellFormed}
use Rattle.c_print.specs.Feedless.{feedless}
use Rattle.c_text_layout.specs.RawLayout.{raw_layout}
use Rattle.c_text_layout.specs.Settled.{SameInLayout}

-- the bytes are an accepted text that keeps the limits, and its program is this one but for lines
pub record IsReadAgain (text : Bytes) (p : Program) : Type 0 where
  pub found : RawProgram
  pub again : Program
  pub accepted : IsAccepted text found again
  pub within : IsWithinLimits found again
  pub same : SameButLines p again

-- the layout of the program of a tree that is syntax and keeps all rules is that of the tree
abbrev pub LayoutIsOfText : Type 0
LayoutIsOfText = (raw : RawProgram) (p : Program) → IsSyntax raw → KeepsRules raw → program_of raw ≡ Some p → layout p ≡ raw_layout raw

-- of two trees that are syntax and the same in all that the layout keeps, one keeps the rules where the other does, and they have one program but for lines
abbrev pub LayoutKeepsPrograms : Type 0
LayoutKeepsPrograms =
    (raw found : RawProgram) (p : Program) → IsSyntax raw → IsSyntax found → SameInLayout found raw → KeepsRules raw → program_of raw ≡ Some p
    → KeepsRules found × ((q : Program) × (program_of found ≡ Some q) × SameButLines p q)

-- the layout of a well-formed program is an accepted text, and is read as the program but for lines
abbrev pub LayoutIsReadAgain : Type 0
LayoutIsReadAgain = (p : Program) → IsWellFormed p → IsReadAgain (layout p) p

-- no star stands in the bytes
abbrev pub starless : Bytes → Bool
starless = list_all (λ b. not (b == 42))

-- a comment on a line of its own
abbrev pub comment_line : Bytes → Bytes
comment_line inside = codes "/*" ++ (inside ++ codes "*/\n")

-- so is the layout behind a comment of one line
abbrev pub CommentedIsReadAgain : Type 0
CommentedIsReadAgain =
    (inside : Bytes) (p : Program) → feedless inside ≡ true → starless inside ≡ true → IsWellFormed p → IsReadAgain (comment_line inside ++ layout p) p

-- programs that are the same but for lines have one layout
abbrev pub LayoutHasNoLines : Type 0
LayoutHasNoLines = (p q : Program) → SameButLines p q → layout p ≡ layout q

-- programs that are the same but for lines have arrays of one greatest length, and objects of one greatest number of cells
abbrev pub LimitsAreSame : Type 0
LimitsAreSame = (p q : Program) → SameButLines p q → (array_length p ≡ array_length q) × (object_cells p ≡ object_cells q)
