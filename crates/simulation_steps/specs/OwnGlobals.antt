-- What is true of the globals of every well-formed program: each begins once, where a run begins.
use Rattle.std.specs.Prelude.{◌≡◌, ℕ, ℤ, List, map, Bool, false, Some, Contains, slice_get}
use Rattle.c_tree.specs.declared.program.Program.{Program}
use Rattle.c_language.specs.Code.{Code, End, Opens, Plain, Fork, Loop, Leaves, Call}
use Rattle.c_meaning.specs.Activations.{Global, executable, code_at}
use Rattle.dep_model.specs.DoingEffects.{is_global}
use Rattle.dep_model.specs.MayPoint.{parameters}

-- a list begins none of these variables
abbrev pub BeginsNone : (ℕ → Bool) → Code → Type 0
BeginsNone these End = Unit {0}
BeginsNone these (Opens x r) = (these x ≡ false) × BeginsNone these r
BeginsNone these (Plain i a r) = BeginsNone these r
BeginsNone these (Fork i e c r) = ((v : ℤ) → BeginsNone these (c v)) × BeginsNone these r
BeginsNone these (Loop i e b r) = BeginsNone these b × BeginsNone these r
BeginsNone these (Leaves xs r) = BeginsNone these r
BeginsNone these (Call i to g args r) = BeginsNone these r

abbrev pub globals_of : Program → List ℕ
globals_of p = map (λ (g : Global). g.variable) (executable p).globals

-- no global stands twice among those that begin, none is a parameter, and no function begins one
pub record HasOwnGlobals (p : Program) : Type 0 where
  pub once : (i j x : ℕ) → slice_get (globals_of p) i ≡ Some x → slice_get (globals_of p) j ≡ Some x → i ≡ j
  pub parameters_not : (f x : ℕ) → Contains (parameters p f) x → is_global p x ≡ false
  pub bodies_not : (f : ℕ) → BeginsNone (is_global p) (code_at (executable p) f)
