-- What the law is about: a program and its slice, which vertices are kept and what they may use, define and kill, what is wanted where,
-- and how the memories of both agree.
use Rattle.std.specs.Prelude.{◌≡◌, ℕ, List, map, Bool, false, Option}
use Rattle.c_tree.specs.declared.statement.Target.{Target}
use Rattle.c_language.specs.Code.{Code}
use Rattle.c_meaning.specs.Values.{State, shown_of}
use Rattle.c_meaning.specs.Acts.{Made}
use Rattle.c_meaning.specs.Activations.{Executable}
use Rattle.c_meaning.specs.Steps.{Reaches, Waiting, Point, machine, beginning}
use Rattle.run_facts.specs.NextSteps.{Next, Ends, Passes, Does, Calls}
use Rattle.simulation.specs.Places.{Position}

-- the vertices of which the law speaks, over locations L: of a statement that isn't a call; the formal-in and the formal-out of a
-- location of a function, which for its result is that of what it returns; and of a call of a callee by a statement of a function its
-- vertex, the actual-in and the actual-out of a location, and the actual-out of its result
pub data Vertex (L : Type 0) : Type 0 where
  Statement : (function id : ℕ) → Vertex L
  FormalIn : (function : ℕ) → L → Vertex L
  FormalOut : (function : ℕ) → L → Vertex L
  Calling : (function id callee : ℕ) → Vertex L
  ActualIn : (function id callee : ℕ) → L → Vertex L
  ActualOut : (function id callee : ℕ) → L → Vertex L
  ResultOut : (function id callee : ℕ) → Vertex L

pub record Setting : Type 1 where
  -- ---- the programs
  pub original : Executable
  pub slice : Executable
  pub input : List ℕ
  -- what functions, statements and targets of calls are in the slice
  pub function : ℕ → ℕ
  pub statement : ℕ → ℕ
  pub target : Target → Target
  -- where the slice stands, while the original stands at a list of a function
  pub project : ℕ → Code → Code
  -- ---- dependence
  -- locations, among them the result of each function, and those that are seen outside of the activation that they belong to: all but
  -- results, and variables of functions whose addresses are never taken
  pub L : Type 0
  pub result : ℕ → L
  pub outside : L → Bool
  -- which vertices are kept, and which moves without an act: where a kept variable begins, or kept variables are gone
  pub kept : Vertex L → Bool
  pub keeps_move : (function : ℕ) → Code → Bool
  pub uses : Vertex L → L → Bool
  pub defines : Vertex L → L → Bool
  pub kills : Vertex L → L → Bool
  -- what the actual-ins of the kept arguments of a call may use
  pub argument_uses : (function id callee : ℕ) → L → Bool
  -- which functions have a formal-in that defines a location, and which modify it, themselves or by the functions that they call
  pub takes : ℕ → L → Bool
  pub modifies : ℕ → L → Bool
  -- a location is wanted at a position: a chain of follows leads from the vertex there to a kept one that may use it, with no kill before
  pub wanted : L → Position → Type 0
  -- ---- the criterion
  -- its statements in the original and in the slice, and functions that hold it
  pub criterion : ℕ → Bool
  pub ranks : ℕ → Bool
  pub holds : ℕ → Type 0
  -- ---- how memories agree
  -- worlds: for which block of the original each block of the slice stands; a world can grow
  pub W : Type 0
  pub Grows : W → W → Type 0
  -- the blocks of the slice stand for blocks of the original
  pub Blocks : W → State → State → Type 0
  -- so do the blocks that an activation of each can name
  pub Frames : W → (ℕ → Option ℕ) → (ℕ → Option ℕ) → Type 0
  -- what the activation that runs in each state sees at a location agrees
  pub Same : W → L → State → State → Type 0

-- the points of the runs
abbrev pub Reached : Setting → Point → Type 0
Reached s x = Reaches (machine s.original) (beginning s.original s.input) x

abbrev pub ReachedThere : Setting → Point → Type 0
ReachedThere s y = Reaches (machine s.slice) (beginning s.slice s.input) y

-- a state as an activation that waits sees it, or as that which runs in another state does
abbrev pub seen : Waiting → State → State
seen a m = record m { frame = a.frame; returned = a.returned }

abbrev pub seen_from : State → State → State
seen_from s m = record m { frame = s.frame; returned = s.returned }

-- two results of acts show the same: numbers, null pointers, and indexes of other pointers
abbrev pub ShowSame : Made → Made → Type 0
ShowSame v u = map shown_of v.values ≡ map shown_of u.values

-- whether what a list of a function does next is an act of a kept statement
abbrev pub kept_next : (s : Setting) → ℕ → Next → Bool
kept_next s f Ends = false
kept_next s f (Passes change r) = false
kept_next s f (Does i a go) = s.kept (Statement f i)
kept_next s f (Calls i to g args r) = s.kept (Calling f i g)
