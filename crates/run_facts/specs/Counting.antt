-- Which blocks count for an activation.
use Rattle.std.specs.Prelude.{◌≡◌, ◌⊎◌, ℕ, Bool, true, Some}
use Rattle.c_meaning.specs.Values.{State}
use Rattle.dep_model.specs.declared.location.Location.{Location}
use Rattle.dep_model.specs.declared.location.Root.TheVariants.{Variable}

module _ (outside : Location → Bool) where
  -- which blocks count at a location that lies in them: all, where it is seen outside of its activation; and else that of the variable
  -- which the activation that runs can name
  abbrev pub Counts : Location → State → ℕ → Type 0
  Counts l m b = (outside l ≡ true) ⊎ ((x : ℕ) × (l.root ≡ Variable x) × (m.frame x ≡ Some b))
