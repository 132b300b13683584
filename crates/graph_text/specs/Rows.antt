-- What the lines of a graph tell of the statements of a program, in the order of their numbers.
use Rattle.std.specs.Prelude.{ℕ, List, [], ◌∷◌, Option, Some, None, slice_get}
use Rattle.std.specs.Option.{option_map_or}
use Rattle.c_tree.specs.declared.program.Program.{Program}
use Rattle.c_tree.specs.Numbered.{Starts, program_starts}
use Rattle.c_language.specs.Code.{Allocates}
use Rattle.c_language.specs.DeclaredTypes.{void}
use Rattle.c_language.specs.declared.expr_type.ExprType.{ExprType}
use Rattle.c_language.specs.TreeTypes.{pointee}
use Rattle.dep_model.specs.Doings.{Doing, Does, Calls, program_doings}
use Rattle.dep_model.specs.Locations.{target_type}
use Rattle.graph_text.specs.declared.rows.Row.{Row}

-- a statement that neither calls a function of the text nor allocates
abbrev pub plain : ℕ → Row
plain line = record { line = line; called = None; elements = None }

-- a call of a function
abbrev pub calling : ℕ → ℕ → Row
calling line f = record { line = line; called = Some f; elements = None }

-- a call of malloc, with the type of its elements
abbrev pub allocating : ℕ → ExprType → Row
allocating line t = record { line = line; called = None; elements = Some t }

-- a statement by the line on which it starts and by what it does
abbrev pub row_of : Program → ℕ → Doing → Row
row_of p line (Calls i to f args) = calling line f
row_of p line (Does i (Allocates to n)) = allocating line (pointee (target_type p to))
row_of p line (Does i act) = plain line

-- statements by where they start and by what they do, in one order
abbrev pub rows_in : Program → Starts → List Doing → List Row
rows_in p [] ds = []
rows_in p (s ∷ ss) [] = []
rows_in p (s ∷ ss) (d ∷ ds) = row_of p s.line d ∷ rows_in p ss ds

-- the rows of a program's statements: both lists are in the order of the statements' numbers
abbrev pub rows : Program → List Row
rows p = rows_in p (program_starts p) (program_doings p)

-- the line of a statement by its number
abbrev pub line_at : List Row → ℕ → ℕ
line_at rows i = option_map_or (λ (r : Row). r.line) (slice_get rows i) 0

-- the function that a statement calls
abbrev pub called_at : List Row → ℕ → Option ℕ
called_at rows i = option_map_or (λ (r : Row). r.called) (slice_get rows i) None

-- the type of the elements that a statement allocates
abbrev pub elements_at : List Row → ℕ → ExprType
elements_at rows i = option_map_or (λ (r : Row). option_map_or (λ (t : ExprType). t) r.elements void) (slice_get rows i) void
