-- What the parts of a text leave as it is of the counts of a scope.
use Rattle.std.proofs.Common.{◌≡◌, ℕ, ◌+◌, List, [], ◌∷◌, Bool, true, false, Option, Some, None, refl, ap, ◌∙◌}
use Rattle.std.specs.Prelude.{is_some, if◌then◌else◌}
use Rattle.c_tree.specs.declared.raw.program.RawHead.{RawHead}
use Rattle.c_tree.specs.declared.raw.program.RawInit.{RawInit}
use Rattle.c_tree.specs.declared.raw.program.RawInit.TheVariants as init
use Rattle.c_tree.specs.declared.raw.program.RawParam.{RawParam}
use Rattle.c_tree.specs.declared.raw.program.RawProgram.{RawProgram}
use Rattle.c_tree.specs.declared.raw.statement.RawTarget.{RawTarget}
use Rattle.c_tree.specs.declared.raw.statement.RawTarget.TheVariants as target
use Rattle.c_language.specs.Words.{Bytes}
use Rattle.c_language.specs.Scopes.{Scope, Meaning, meaning_here, with_entry, with_function, with_named, with_parameter, with_parameters, scope_of_parameters, entered, with_target, begun}

-- a function is declared already, or its name is one more
pub function_declared : (P : Scope → Type 0) (name : Bytes) (scope : Scope) → P scope → P (with_entry name Meaning.Function scope) → P (with_function name scope)
function_declared P name scope h k = by_test (is_some (meaning_here scope name))
  where
    by_test : (b : Bool) → P (if b then scope else with_entry name Meaning.Function scope)
    by_test true = h
    by_test false = k

-- a declared function changes nothing but names
pub through_function : {A : Type 0} (f : Scope → A) (name : Bytes) (scope : Scope) → f (with_entry name Meaning.Function scope) ≡ f scope → f (with_function name scope) ≡ f scope
through_function f name scope h = function_declared (λ (z : Scope). f z ≡ f scope) name scope refl h

pub function_variables : (name : Bytes) (scope : Scope) → (with_function name scope).variables ≡ scope.variables
function_variables name scope = through_function (λ (z : Scope). z.variables) name scope refl

-- what a declaration begins with declares nothing
pub begun_variables : (i : RawInit) (scope : Scope) → (begun i scope).variables ≡ scope.variables
begun_variables init.None scope = refl
begun_variables (init.One a) scope = refl
begun_variables (init.Items all) scope = refl

pub begun_statements : (i : RawInit) (a b : Scope) → a.statements ≡ b.statements → (begun i a).statements ≡ (begun i b).statements
begun_statements init.None a b h = h
begun_statements (init.One x) a b h = ap (λ (n : ℕ). n + 1) h
begun_statements (init.Items all) a b h = ap (λ (n : ℕ). n + 1) h

module _ (raw : RawProgram) where
  -- a target is no statement
  pub target_statements : (to : RawTarget) (scope : Scope) → (with_target raw to scope).statements ≡ scope.statements
  target_statements target.None scope = refl
  target_statements (target.Place a) scope = refl
  target_statements (target.Declared v) scope = refl

  named_statements : (p : RawParam) (name : Option Bytes) (scope : Scope) → (with_named raw p name scope).statements ≡ scope.statements
  named_statements p None scope = refl
  named_statements p (Some name) scope = refl

  parameters_statements : (ps : List RawParam) (scope : Scope) → (with_parameters raw ps scope).statements ≡ scope.statements
  parameters_statements [] scope = refl
  parameters_statements (p ∷ ps) scope = parameters_statements ps (with_parameter raw p scope) ∙ named_statements p p.name scope

  -- the head of a function has no statements
  pub entered_statements : (head : RawHead) (scope : Scope) → (entered raw head scope).statements ≡ scope.statements
  entered_statements head scope =
      parameters_statements head.params (scope_of_parameters head scope) ∙ through_function (λ (z : Scope). z.statements) head.name scope refl
