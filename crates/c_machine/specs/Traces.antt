-- What is told of a run: the events at the statements that are watched, and the output.
use Rattle.std.specs.Prelude.{◌≡◌, ℕ, List, [], ◌++◌, Bool, true, false, Option, Some, None, slice_index_or}
use Rattle.std.specs.Option.{option_copied}
use Rattle.c_language.specs.Words.{Bytes}
use Rattle.c_meaning.specs.declared.event.Event.{Event}
use Rattle.c_meaning.specs.Meaning.{Trace, at}
use Rattle.c_machine.specs.declared.traces.Trace.{Trace as Told}

-- whether the events of a statement are kept; None keeps all, and a number at or past the list's end isn't watched
abbrev pub watches : Option (List Bool) → ℕ → Bool
watches None i = true
watches (Some list) i = slice_index_or list i false

-- the events of a run that are kept
abbrev pub kept_events : Option (List Bool) → Trace → List Event
kept_events watched t = at (watches watched) t.events

-- which statements are watched, and what was told of a run before
pub record Before : Type 0 where
  pub watched : Option (List Bool)
  pub events : List Event
  pub output : Bytes

abbrev pub nothing_before : Option (List Bool) → Before
nothing_before watched = record { watched = watched; events = []; output = [] }

-- what was told, behind what was told before, is that of a trace
pub record IsTold (before : Before) (r : Told) (t : Trace) : Type 0 where
  pub watched_is : option_copied r.watched ≡ before.watched
  pub events : before.events ++ r.events.items ≡ kept_events before.watched t
  pub output : before.output ++ r.output.items ≡ t.output
