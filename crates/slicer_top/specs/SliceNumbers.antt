-- The numbers of the slice of a program at its last line.
use Rattle.std.specs.Prelude.{◌≡◌, ℕ, ◌≤◌, ◌++◌, List, Bool, length, codes}
use Rattle.std.specs.Fmt.{decimal}
use Rattle.std.specs.List.{count_by}
use Rattle.c_tree.specs.declared.program.Program.{Program}
use Rattle.c_language.specs.Words.{Bytes}
use Rattle.dep_model.specs.declared.graph.Graph.{Graph}
use Rattle.dep_model.specs.Graphs.{IsGraphOf}
use Rattle.slice_engine.specs.Engine.{IsKept}
use Rattle.slice_engine.specs.Slice.{HasStart, IsSlice}

-- some statement of a program starts on some line
abbrev pub HasSomeStart : Program → Type 0
HasSomeStart p = (line : ℕ) × HasStart p line

-- this is the last line on which a statement of a program starts
pub record IsLastLine (p : Program) (line : ℕ) : Type 0 where
  pub starts : HasStart p line
  pub last : (other : ℕ) → HasStart p other → other ≤ line

-- how many vertices a set has
abbrev pub size_of : List Bool → ℕ
size_of = count_by (λ (b : Bool). b)

-- the line with so many functions, statements, vertices, vertices that the slice keeps, and bytes of its text
abbrev pub numbers_line : ℕ → ℕ → ℕ → ℕ → ℕ → Bytes
numbers_line functions statements vertices kept bytes =
    codes "functions " ++ (decimal functions ++ (codes " statements " ++ (decimal statements
    ++ (codes " vertices " ++ (decimal vertices ++ (codes " kept " ++ (decimal kept ++ (codes " bytes " ++ (decimal bytes ++ codes "\n")))))))))

-- what is written are the numbers of a program, of its dependence graph, and of its slice at the last line on which a statement starts
pub record IsNumbersText (p : Program) (written : Bytes) : Type 0 where
  pub graph : Graph
  pub is_graph : IsGraphOf p graph
  pub line : ℕ
  pub is_last : IsLastLine p line
  pub kept : List Bool
  pub is_kept : IsKept p line kept
  pub text : Bytes
  pub is_slice : IsSlice p line text
  pub is : written ≡ numbers_line (length p.functions) p.statements (length graph.vertices) (size_of kept) (length text)
