-- What a slice has of the functions and the calls that it keeps.
use Rattle.std.specs.Prelude.{◌≡◌, ℕ, ◌<◌, List, length, map, Bool, true, ◌&&◌, Option, Some, None, Contains, slice_get}
use Rattle.c_tree.specs.declared.expr.Expr.{Expr}
use Rattle.c_tree.specs.declared.program.Program.{Program}
use Rattle.c_tree.specs.declared.statement.Target.{Target}
use Rattle.c_meaning.specs.Activations.{Routine, Global, executable}
use Rattle.dep_model.specs.Doings.{Calls, doings_of}
use Rattle.dep_model.specs.FunctionVertices.{numbers}
use Rattle.dep_model.specs.SystemGraph.{Analysis, vertices_of}
use Rattle.projection.specs.Kept.{KeptWords, Kept, chosen}
use Rattle.projection.specs.KeptVertices.{is_argument}
use Rattle.projection.specs.Names.{call_names}
use Rattle.run_facts.specs.Effects.{parameters_at}
use Rattle.simulation_locations.specs.KeptVertices.{any_kept}
use Rattle.simulation_places.specs.ProjectedCode.{Numbering, renamed_all}

-- the words that are kept, of all that is kept
abbrev pub words_of : Kept ℕ → KeptWords
words_of k = record { statement = k.statement; result = k.result; argument = k.argument }

-- a function of the slice has the parameters and the variables of its outermost block that stay, under their ranks
pub record IsLikeRoutine (k : Kept ℕ) (new : Numbering) (g : ℕ) (here there : Routine) : Type 0 where
  pub params_are : there.params ≡ map new.variable (chosen (k.parameter g) 0 here.params)
  pub locals_are : there.locals ≡ renamed_all k new here.locals

pub data AreLikeRoutines (k : Kept ℕ) (new : Numbering) (g : ℕ) : Option Routine → Option Routine → Type 0 where
  none : AreLikeRoutines k new g None None
  routine : {here there : Routine} → IsLikeRoutine k new g here there → AreLikeRoutines k new g (Some here) (Some there)

-- each kept function is there under its rank with the parameters that it keeps, and so are the globals that stay; a parameter stays where
-- its function and it are kept; a kept call has the arguments of such parameters, as their vertices are kept; and what its words name stays
pub record HasLikeCalls (p q : Program) (a : Analysis) (k : Kept ℕ) (new : Numbering) (kept : List Bool) : Type 0 where
  pub routines :
      (g : ℕ) → k.function g ≡ true
      → AreLikeRoutines k new g (slice_get (executable p).functions g) (slice_get (executable q).functions (new.function g))
  pub globals :
      map (λ (g : Global). g.variable) (executable q).globals ≡ renamed_all k new (map (λ (g : Global). g.variable) (executable p).globals)
  pub parameters : (g n x : ℕ) → slice_get (parameters_at (executable p) g) n ≡ Some x → k.variable x ≡ (k.function g && k.parameter g n)
  pub arguments :
      (f i g : ℕ) (to : Target) (args : List Expr) → Contains (doings_of p f) (Calls i to g args) → k.statement i ≡ true → (n : ℕ)
      → n < length args → k.argument i n ≡ k.parameter g n
  pub names_kept :
      (f i g x : ℕ) (to : Target) (args : List Expr) → Contains (doings_of p f) (Calls i to g args) → k.statement i ≡ true
      → call_names (words_of k) i to args x ≡ true → k.variable x ≡ true
  pub argument_vertices :
      (f i g : ℕ) (to : Target) (args : List Expr) → Contains (doings_of p f) (Calls i to g args) → (n : ℕ)
      → k.argument i n ≡ any_kept p a kept (numbers (is_argument i n) f (vertices_of p a))
