-- What a function may modify and may use of what outlives its call or is seen outside of it.
use Rattle.std.specs.Prelude.{◌≡◌, ◌↔◌, ℕ, List, Bool, true, false, ◌||◌, Contains}
use Rattle.c_tree.specs.declared.expr.Expr.{Expr}
use Rattle.c_tree.specs.declared.program.Program.{Program}
use Rattle.c_tree.specs.declared.statement.Target.{Target}
use Rattle.dep_model.specs.declared.location.Location.{Location}
use Rattle.dep_model.specs.declared.location.Root.{Root}
use Rattle.dep_model.specs.declared.location.Root.TheVariants.{Input, Variable, Site, Result}
use Rattle.dep_model.specs.Denoted.{TargetsOf}
use Rattle.dep_model.specs.Doings.{Doing, Calls, doings_of}
use Rattle.dep_model.specs.DoingEffects.{is_global, is_taken, doing_uses, doing_defines}

-- g is called from f by zero or more calls
pub data IsCalledFrom (p : Program) (f : ℕ) : ℕ → Type 0 where
  itself : IsCalledFrom p f f
  call : {g h i : ℕ} {to : Target} {args : List Expr} → IsCalledFrom p f g → Contains (doings_of p g) (Calls i to h args) → IsCalledFrom p f h

abbrev pub is_outside_root : Program → Root → Bool
is_outside_root p Input = true
is_outside_root p (Variable x) = is_global p x || is_taken p x
is_outside_root p (Site i) = true
is_outside_root p (Result f) = false

-- the input, or a location of a global, of a site or of a variable whose address is taken
abbrev pub is_outside : Program → Location → Bool
is_outside p l = is_outside_root p l.root

module _ (p : Program) (points : TargetsOf) where
  -- some statement of a function that is called from f may define l
  pub record Modifies (f : ℕ) (l : Location) : Type 0 where
    pub function : ℕ
    pub doing : Doing
    pub called : IsCalledFrom p f function
    pub member : Contains (doings_of p function) doing
    pub defined : doing_defines p points function doing l ≡ true
    pub outside : is_outside p l ≡ true

  -- some statement of a function that is called from f may use l
  pub record MayUse (f : ℕ) (l : Location) : Type 0 where
    pub function : ℕ
    pub doing : Doing
    pub called : IsCalledFrom p f function
    pub member : Contains (doings_of p function) doing
    pub used : doing_uses p points doing l ≡ true
    pub outside : is_outside p l ≡ true

-- for each function, what it modifies and what it uses
pub record FunctionEffects : Type 0 where
  pub modified : ℕ → Location → Bool
  pub used : ℕ → Location → Bool

-- exactly these
pub record AreFunctionEffects (p : Program) (points : TargetsOf) (e : FunctionEffects) : Type 0 where
  pub modified_are : (f : ℕ) (l : Location) → (e.modified f l ≡ true) ↔ Modifies p points f l
  pub used_are : (f : ℕ) (l : Location) → (e.used f l ≡ true) ↔ MayUse p points f l
