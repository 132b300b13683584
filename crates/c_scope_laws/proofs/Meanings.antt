-- What a name stands for where its variables have other numbers.
use Rattle.std.proofs.Common.{◌≡◌, ℕ, Option, Some, None, refl, sym, ap, subst}
use Rattle.std.specs.Prelude.{option_map, is_none}
use Rattle.c_language.specs.Scopes.{Meaning}
use Rattle.c_language.specs.ExprRules.{is_function}
use Rattle.c_language.specs.declared.expr_type.ExprType.{ExprType}
use Rattle.c_language.proofs.Options.{none_there, some_same}
use Rattle.c_scope_laws.specs.Agreement.{moved_meaning}

abbrev type_in : Option ExprType → Meaning → Option ExprType
type_in d (Meaning.Variable id t) = t
type_in d Meaning.Function = d

abbrev IsOfVariable : Meaning → Type 0
IsOfVariable (Meaning.Variable id t) = Unit {0}
IsOfVariable Meaning.Function = ⊥

pub function_variable : {A : Type 0} {id : ℕ} {t : Option ExprType} → ◌≡◌ {A = Meaning} Meaning.Function (Meaning.Variable id t) → A
function_variable h = absurd (subst IsOfVariable (sym h) tt)

module _ (f : ℕ → ℕ) where
  pub is_none_moved : (m : Option Meaning) → is_none (option_map (moved_meaning f) m) ≡ is_none m
  is_none_moved None = refl
  is_none_moved (Some m) = refl

  pub is_function_moved : (m : Option Meaning) → is_function (option_map (moved_meaning f) m) ≡ is_function m
  is_function_moved None = refl
  is_function_moved (Some (Meaning.Variable id t)) = refl
  is_function_moved (Some Meaning.Function) = refl

  pub function_back : (m : Option Meaning) → option_map (moved_meaning f) m ≡ Some Meaning.Function → m ≡ Some Meaning.Function
  function_back None h = none_there h
  function_back (Some (Meaning.Variable id t)) h = function_variable (sym (some_same h))
  function_back (Some Meaning.Function) h = refl

  -- a variable stands for a variable of the same type
  pub variable_back : (m : Option Meaning) (id : ℕ) (t : Option ExprType) → option_map (moved_meaning f) m ≡ Some (Meaning.Variable id t) → (k : ℕ) × (m ≡ Some (Meaning.Variable k t))
  variable_back None id t h = none_there h
  variable_back (Some (Meaning.Variable k u)) id t h = (k, ap (λ (x : Option ExprType). Some (Meaning.Variable k x)) (ap (type_in u) (some_same h)))
  variable_back (Some Meaning.Function) id t h = function_variable (some_same h)
