-- The law on slices over the vertices of a program, with what is wanted by chains of their order.
use Rattle.std.specs.Prelude.{◌≡◌, ℕ, ◌<◌, List, length, map, Bool, true, Contains}
use Rattle.std.specs.List.{range_with_len}
use Rattle.c_tree.specs.declared.expr.Expr.{Expr}
use Rattle.c_tree.specs.declared.program.Program.{Program}
use Rattle.c_tree.specs.declared.statement.Target.{Target}
use Rattle.c_language.specs.Code.{Code}
use Rattle.c_meaning.specs.Activations.{Executable, executable}
use Rattle.dep_model.specs.declared.location.Location.{Location}
use Rattle.dep_model.specs.declared.vertex.Slot.TheVariants.{Result}
use Rattle.dep_model.specs.Doings.{Calls, doing_number, program_doings, doings_of}
use Rattle.dep_model.specs.ListedLocations.{IsListed}
use Rattle.dep_model.specs.ModRef.{is_outside}
use Rattle.dep_model.specs.SystemGraph.{Analysis}
use Rattle.dep_model.specs.VertexOrder.{result_slots}
use Rattle.run_facts.specs.NextSteps.{stores}
use Rattle.simulation.specs.Renaming.{Names}
use Rattle.simulation.specs.Settings.{Setting}
use Rattle.simulation.specs.Slicings.{Slicing, setting_of}
use Rattle.simulation_locations.specs.KeptVertices.{keeps_vertex, arguments_use, takes, vertex_uses, vertex_defines, vertex_kills}
use Rattle.simulation_locations.specs.Wanted.{IsWanted}

-- a slice of a program, and how its parts are named there
pub record Counterpart : Type 0 where
  pub slice : Executable
  pub input : List ℕ
  pub names : Names
  pub function : ℕ → ℕ
  pub target : Target → Target
  pub project : ℕ → Code → Code
  pub keeps_move : (function : ℕ) → Code → Bool
  pub criterion : ℕ → Bool
  pub ranks : ℕ → Bool

module _ (p : Program) (a : Analysis) (kept : List Bool) (c : Counterpart) where
  -- the program and its slice as data, where a set of the program's vertices is kept
  abbrev pub slicing_over : Slicing
  slicing_over = record {
    original = executable p;
    slice = c.slice;
    input = c.input;
    names = c.names;
    function = c.function;
    target = c.target;
    project = c.project;
    outside = is_outside p;
    kept = keeps_vertex p a kept;
    keeps_move = c.keeps_move;
    uses = vertex_uses p a;
    defines = vertex_defines p a;
    kills = vertex_kills p a;
    argument_uses = arguments_use p a kept;
    takes = takes p a;
    modifies = a.effects.modified;
    criterion = c.criterion;
    ranks = c.ranks;
  }

  -- a location is wanted where a chain of follows leads to a kept vertex that may use it
  abbrev pub chained : (ℕ → Type 0) → Setting
  chained holds = setting_of slicing_over (λ l q. IsWanted p a kept l q) holds

-- what is true of the statements of every well-formed program: they have the numbers 0, 1, and so on, function by function; what a
-- function modifies or may use is listed; a function that is called is one of the program, and gives a result that is stored
pub record HasSoundCalls (p : Program) (a : Analysis) : Type 0 where
  pub numbered : map doing_number (program_doings p) ≡ range_with_len 0 p.statements
  pub modified_listed : (f : ℕ) (l : Location) → a.effects.modified f l ≡ true → IsListed p l
  pub used_listed : (f : ℕ) (l : Location) → a.effects.used f l ≡ true → IsListed p l
  pub callees : (f i g : ℕ) (to : Target) (args : List Expr) → Contains (doings_of p f) (Calls i to g args) → g < length p.functions
  pub results :
      (f i g : ℕ) (to : Target) (args : List Expr) → Contains (doings_of p f) (Calls i to g args) → stores to ≡ true
      → Contains (result_slots p a.effects g) Result
