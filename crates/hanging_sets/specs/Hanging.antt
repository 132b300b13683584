-- What is kept of a program hangs together: all that kept text needs is kept.
use Rattle.std.specs.Prelude.{◌≡◌, ℕ, ◌<◌, ◌≤◌, Bool, true, false, ◌&&◌, List, [], ◌∷◌, length, Option, Some, Contains, slice_get}
use Rattle.c_tree.specs.declared.expr.Expr.{Expr}
use Rattle.c_tree.specs.declared.program.Function.{Function}
use Rattle.c_tree.specs.declared.program.Program.{Program}
use Rattle.c_tree.specs.declared.statement.Statement.{Statement}
use Rattle.c_tree.specs.declared.statement.Statement.TheVariants as s
use Rattle.c_tree.specs.declared.statement.Target.{Target}
use Rattle.c_language.specs.Code.{Act, Returns}
use Rattle.c_language.specs.Mains.{main_of}
use Rattle.c_language.specs.NameRules.{is_main}
use Rattle.c_language.specs.Names.{act_names}
use Rattle.dep_model.specs.Doings.{Doing, Does, Calls, doing_number, doings_of}
use Rattle.dep_model.specs.MayPoint.{parameters}
use Rattle.numbered_texts.specs.FittingCalls.{stores}
use Rattle.projection.specs.Kept.{KeptWords, Kept}
use Rattle.projection.specs.KeptVertices.{is_taken}
use Rattle.projection.specs.Names.{call_names, stays}
use Rattle.projection_laws.specs.Nested.{IsNested}

-- the words that are kept, of all that is kept
abbrev pub words_in : {F : Type 0} → Kept F → KeptWords
words_in k = record { statement = k.statement; result = k.result; argument = k.argument }

-- the last statement of a list is this return
abbrev pub EndsWith : ℕ → Option Expr → List Statement → Type 0
EndsWith i e [] = ⊥
EndsWith i e (x ∷ []) = (l : ℕ) × (x ≡ s.Return i l e)
EndsWith i e (x ∷ (y ∷ rest)) = EndsWith i e (y ∷ rest)

-- What is kept of a program hangs together. A statement is told by what it does, and by the function in which it stands.
pub record HangsTogether (p : Program) (k : Kept ℕ) : Type 0 where
  -- ---- what it stands in
  -- each if, loop and switch is kept in which something is kept
  pub nested : IsNested k.statement p
  -- a function is kept in which a statement is kept
  pub owners : (f : ℕ) (d : Doing) → Contains (doings_of p f) d → k.statement (doing_number d) ≡ true → k.function f ≡ true
  -- ---- variables
  -- each variable that the words of a kept statement name is kept
  pub acts : (f i x : ℕ) (a : Act) → Contains (doings_of p f) (Does i a) → k.statement i ≡ true → act_names a x ≡ true → k.variable x ≡ true
  -- and each that the words name which a kept call keeps
  pub calls : (f i g x : ℕ) (to : Target) (args : List Expr)
      → Contains (doings_of p f) (Calls i to g args) → k.statement i ≡ true → call_names (words_in k) i to args x ≡ true → k.variable x ≡ true
  -- a variable that is no parameter is kept only where kept text refers to it
  pub variables : (x : ℕ) → k.variable x ≡ true → is_taken p.functions x ≡ false → stays (words_in k) p x ≡ true
  -- and that of a parameter exactly where the function and the parameter are
  pub parameters_too : (f n x : ℕ) → slice_get (parameters p f) n ≡ Some x → k.variable x ≡ (k.function f && k.parameter f n)
  -- ---- calls
  -- the function that a kept call calls is kept
  pub callees : (f i g : ℕ) (to : Target) (args : List Expr) → Contains (doings_of p f) (Calls i to g args) → k.statement i ≡ true → k.function g ≡ true
  -- a kept call keeps the arguments of the parameters that the function keeps
  pub arguments : (f i g : ℕ) (to : Target) (args : List Expr)
      → Contains (doings_of p f) (Calls i to g args) → k.statement i ≡ true → (n : ℕ) → n < length args → k.argument i n ≡ k.parameter g n
  -- a function gives a result still, where a kept call keeps it
  pub results : (f i g : ℕ) (to : Target) (args : List Expr)
      → Contains (doings_of p f) (Calls i to g args) → k.statement i ≡ true → stores to ≡ true → k.result i ≡ true → k.gives g ≡ true
  -- ---- returns
  -- and where a kept return of a value stands in it
  pub returns : (f i : ℕ) (e : Expr) → Contains (doings_of p f) (Does i (Returns (Some e))) → k.statement i ≡ true → k.gives f ≡ true
  -- a function other than main that gives a result still keeps the return that it ends with
  pub ends : (f i : ℕ) (e : Expr) (c : Function)
      → slice_get p.functions f ≡ Some c → is_main c.name ≡ false → k.gives f ≡ true → EndsWith i (Some e) c.body → k.statement i ≡ true
  -- ---- main
  -- main is kept, with its result
  pub main : (f : ℕ) → main_of p ≡ Some f → k.function f ≡ true
  pub main_gives : (f : ℕ) → main_of p ≡ Some f → k.gives f ≡ true
  -- ---- nothing else
  -- only functions of the program are kept
  pub functions_only : (f : ℕ) → length p.functions ≤ f → k.function f ≡ false
  pub parameters_only : (f n : ℕ) → length p.functions ≤ f → k.parameter f n ≡ false
  pub gives_only : (f : ℕ) → length p.functions ≤ f → k.gives f ≡ false
