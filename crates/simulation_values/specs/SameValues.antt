-- Two programs give the same values at statements of theirs.
use Rattle.std.specs.Prelude.{◌≡◌, ℕ, List, Bool, true, map}
use Rattle.c_tree.specs.declared.program.Program.{Program}
use Rattle.c_meaning.specs.declared.event.Event.{Event}
use Rattle.c_meaning.specs.Meaning.{Trace, Ended, meaning, at}
use Rattle.kept_numbers.specs.Ranks.{rank}

-- an event with the rank of its statement
abbrev pub ranked : (ℕ → Bool) → Event → Event
ranked keeps e = record { statement = rank keeps e.statement; values = e.values }

-- the ranks of kept statements are in a set exactly where the statements are in another
abbrev pub StandFor : (keeps set ranks : ℕ → Bool) → Type 0
StandFor keeps set ranks = (i : ℕ) → keeps i ≡ true → ranks (rank keeps i) ≡ set i

-- where the first program ends within n acts, so does the second, with the same values at the statements of a set, which have these ranks there
abbrev pub HasSameValues : (keeps set ranks : ℕ → Bool) → Program → Program → Type 0
HasSameValues keeps set ranks p q =
    (n : ℕ) (input : List ℕ) (t : Trace) → meaning n p input ≡ Ended t → (u : Trace) × (meaning n q input ≡ Ended u) × (at ranks u.events ≡ map (ranked keeps) (at set t.events))
