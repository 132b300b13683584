-- Parts of statements that may be missing.
use Rattle.std.specs.Prelude.{Option, Some, None, ⊤}

-- both parts are there and related, or none is
abbrev pub BothOrNone : {A B : Type 0} → (A → B → Type 0) → Option A → Option B → Type 0
BothOrNone R None None = ⊤
BothOrNone R None (Some y) = ⊥
BothOrNone R (Some x) None = ⊥
BothOrNone R (Some x) (Some y) = R x y
