-- Pairs of vertices in ascending order.
use Rattle.std.specs.Prelude.{◌≡◌, ◌<◌, ◌⊎◌, List}
use Rattle.std.specs.List.{AllPairs}
use Rattle.dep_model.specs.declared.skeleton.Pair.{Pair}

-- by where they lead from, and then by where they lead to
abbrev pub precedes : Pair → Pair → Type 0
precedes x y = (x.from < y.from) ⊎ ((x.from ≡ y.from) × (x.to < y.to))

-- each pair precedes those after it, so that none stands twice
abbrev pub AreAscending : List Pair → Type 0
AreAscending = AllPairs precedes
