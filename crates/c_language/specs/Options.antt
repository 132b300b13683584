-- Values that are there.
use Rattle.std.specs.Prelude.{Option, Some, None}

-- a value is there
abbrev pub IsThere : {A : Type 0} → Option A → Type 0
IsThere None = ⊥
IsThere (Some x) = Unit {0}
