-- What is told: events that are kept of those of a trace, one more of them, and of longer traces.
use Rattle.std.proofs.Common.{◌≡◌, ℕ, List, [], ◌∷◌, ◌++◌, map, append_assoc, Bool, true, false, Option, refl, sym, ap, ap₂, ◌∙◌}
use Rattle.std.proofs.lemmas.List.{append-nil}
use Rattle.std.specs.Option.{option_copied}
use Rattle.c_meaning.specs.declared.event.Event.{Event}
use Rattle.c_meaning.specs.declared.event.Shown.{Shown}
use Rattle.c_meaning.specs.Acts.{Made}
use Rattle.c_meaning.specs.Laws.{IsFront}
use Rattle.c_meaning.specs.Meaning.{Trace, told, at, if_in}
use Rattle.c_meaning.specs.Values.{shown_of}
use Rattle.c_language.specs.Words.{Bytes}
use Rattle.c_machine.specs.declared.traces.Trace.{Trace as Told}
use Rattle.c_machine.specs.Progress.{BeginsWith}
use Rattle.c_machine.specs.Traces.{Before, watches, kept_events, IsTold}

if_in-append : (b : Bool) (e : Event) (es fs : List Event) → if_in b e (es ++ fs) ≡ if_in b e es ++ fs
if_in-append true e es fs = refl
if_in-append false e es fs = refl

at-append : (set : ℕ → Bool) (es fs : List Event) → at set (es ++ fs) ≡ at set es ++ at set fs
at-append set [] fs = refl
at-append set (e ∷ es) fs = ap (if_in (set e.statement) e) (at-append set es fs) ∙ if_in-append (set e.statement) e (at set es) (at set fs)

-- one event more, and more output
pub told_more : (before : Before) (i : ℕ) (values : List Shown) (output : Bytes) (m : Made) (old new : Told) (t : Trace) → values ≡ map shown_of m.values → output ≡ m.output
    → new.events.items ≡ old.events.items ++ if_in (watches (option_copied old.watched) i) (record { statement = i; values = values }) []
    → new.output.items ≡ old.output.items ++ output → new.watched ≡ old.watched → IsTold before old t → IsTold before new (told i m t)
told_more before i values output m old new t ve oe es os ws h =
    let e : Event = record { statement = i; values = map shown_of m.values } in
    record {
      watched_is = ap option_copied ws ∙ h.watched_is;
      events =
          ap (λ (x : List Event). before.events ++ x) es
          ∙ sym (append_assoc before.events _ _)
          ∙ ap (λ (x : List Event). x ++ if_in (watches (option_copied old.watched) i) (record { statement = i; values = values }) []) h.events
          ∙ ap (λ (w : Option (List Bool)). kept_events before.watched t ++ if_in (watches w i) (record { statement = i; values = values }) []) h.watched_is
          ∙ ap (λ (vs : List Shown). kept_events before.watched t ++ if_in (watches before.watched i) (record { statement = i; values = vs }) []) ve
          ∙ sym (at-append (watches before.watched) t.events (e ∷ []));
      output =
          ap (λ (x : Bytes). before.output ++ x) os
          ∙ sym (append_assoc before.output _ _)
          ∙ ap (λ (x : Bytes). x ++ output) h.output
          ∙ ap (λ (x : Bytes). t.output ++ x) oe;
    }

-- what was told was taken, and nothing was told since
pub told_taken : (before after : Before) (old new : Told) (t : Trace) → after.watched ≡ before.watched → after.events ≡ before.events ++ old.events.items → after.output ≡ before.output ++ old.output.items
    → new.watched ≡ old.watched → new.events.items ≡ [] → new.output.items ≡ [] → IsTold before old t → IsTold after new t
told_taken before after old new t ws es os ww none_told none_put h =
    record {
      watched_is = ap option_copied ww ∙ h.watched_is ∙ sym ws;
      events =
          ap₂ (λ (x y : List Event). x ++ y) es none_told
          ∙ append-nil _
          ∙ h.events
          ∙ ap (λ (w : Option (List Bool)). kept_events w t) (sym ws);
      output = ap₂ (λ (x y : Bytes). x ++ y) os none_put ∙ append-nil _ ∙ h.output;
    }

-- what is kept of a front is a front
pub kept_front : (watched : Option (List Bool)) (t u : Trace) → IsFront t u → BeginsWith (kept_events watched t) (kept_events watched u)
kept_front watched t u f =
    (at (watches watched) f.more_events, ap (at (watches watched)) f.events_are ∙ at-append (watches watched) t.events f.more_events)
