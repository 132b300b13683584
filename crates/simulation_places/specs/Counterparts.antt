-- A projection of a program as the law on slices sees it.
use Rattle.std.specs.Prelude.{◌≡◌, ℕ, List, Bool, true, Contains}
use Rattle.c_tree.specs.declared.expr.Expr.{Expr}
use Rattle.c_tree.specs.declared.program.Program.{Program}
use Rattle.c_tree.specs.declared.statement.Target.{Target}
use Rattle.c_language.specs.Code.{Act}
use Rattle.c_meaning.specs.Activations.{executable, code_at}
use Rattle.dep_model.specs.Doings.{Does, Calls, doings_of}
use Rattle.dep_model.specs.SystemGraph.{Analysis}
use Rattle.kept_numbers.specs.Ranks.{rank}
use Rattle.projection.specs.Kept.{Kept}
use Rattle.projection.specs.Renumbering.{renamed_target}
use Rattle.simulation.specs.Renaming.{Names}
use Rattle.simulation.specs.Settings.{Statement, Calling, ResultOut}
use Rattle.simulation_locations.specs.KeptVertices.{keeps_vertex}
use Rattle.simulation_locations.specs.Chained.{Counterpart}
use Rattle.simulation_places.specs.ProjectedCode as code
use Rattle.simulation_places.specs.ProjectedCode.{Numbering, project_code, IsNested}

-- a projection numbers what is kept by its rank
abbrev pub ranks_of : Kept ℕ → Numbering
ranks_of k = record { variable = rank k.variable; statement = rank k.statement; function = rank k.function }

-- what is kept, by its new numbers
abbrev pub names_of : Kept ℕ → Numbering → Names
names_of k new = record { variable = new.variable; stays = k.variable; statement = new.statement }

-- variables that stay have names of their own in the slice
abbrev pub AreApart : Names → Type 0
AreApart names = (x y : ℕ) → names.stays x ≡ true → names.stays y ≡ true → names.variable x ≡ names.variable y → x ≡ y

-- a program q with what is kept and its numbers there, on an input, with statements of a criterion and which have it there
abbrev pub counterpart_of : Program → Kept ℕ → Numbering → List ℕ → (criterion ranks : ℕ → Bool) → Counterpart
counterpart_of q k new input criterion ranks = record {
  slice = executable q;
  input = input;
  names = names_of k new;
  function = new.function;
  target = renamed_target new.variable;
  project = λ f c. project_code k new c;
  keeps_move = λ f c. code.keeps_move k c;
  criterion = criterion;
  ranks = ranks;
}

-- q has the bodies of what a set of p's vertices keeps: each kept function is there under its number with the projection of its body, which
-- is nested; and statements, results and functions of calls are kept as their vertices are
pub record AreProjected (p q : Program) (a : Analysis) (k : Kept ℕ) (new : Numbering) (kept : List Bool) : Type 0 where
  pub main_is : (executable q).main ≡ new.function (executable p).main
  pub main_kept : k.function (executable p).main ≡ true
  pub bodies : (g : ℕ) → k.function g ≡ true → code_at (executable q) (new.function g) ≡ project_code k new (code_at (executable p) g)
  pub nested : (g : ℕ) → IsNested k new (code_at (executable p) g)
  pub acts : (f i : ℕ) (act : Act) → Contains (doings_of p f) (Does i act) → k.statement i ≡ keeps_vertex p a kept (Statement f i)
  pub calls :
      (f i g : ℕ) (to : Target) (args : List Expr) → Contains (doings_of p f) (Calls i to g args)
      → k.statement i ≡ keeps_vertex p a kept (Calling f i g)
  pub results :
      (f i g : ℕ) (to : Target) (args : List Expr) → Contains (doings_of p f) (Calls i to g args)
      → k.result i ≡ keeps_vertex p a kept (ResultOut f i g)
  pub callees :
      (f i g : ℕ) (to : Target) (args : List Expr) → Contains (doings_of p f) (Calls i to g args) → k.statement i ≡ true → k.function g ≡ true
