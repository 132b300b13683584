-- A trace as text: a line for each event at one of the statements that start on some lines of a program's text.
use Rattle.std.specs.Prelude.{◌≡◌, ℕ, zero, suc, ◌==◌, ◌&&◌, Bool, true, List, [], ◌∷◌, ◌++◌, if◌then◌else◌, codes}
use Rattle.std.specs.Fmt.{decimal, signed_decimal}
use Rattle.std.specs.List.{list_any}
use Rattle.c_tree.specs.declared.numbered.Start.{Start}
use Rattle.c_tree.specs.declared.program.Program.{Program}
use Rattle.c_tree.specs.Numbered.{Starts, program_starts}
use Rattle.c_language.specs.Words.{Bytes}
use Rattle.c_meaning.specs.declared.event.Event.{Event}
use Rattle.c_meaning.specs.declared.event.Shown.{Shown}
use Rattle.c_meaning.specs.declared.event.Shown.TheVariants as shown
use Rattle.c_meaning.specs.Meaning.{Trace, at}

-- ---- statements

-- whether statement i is among those of a list that start on a line
abbrev pub starts_among : ℕ → Starts → ℕ → Bool
starts_among line ss i = list_any (λ (s : Start). (s.id == i) && (s.line == line)) ss

-- a statement among those of a list starts on a line
abbrev pub StartsOn : ℕ → Starts → Type 0
StartsOn line ss = (i : ℕ) × (starts_among line ss i ≡ true)

-- whether statement i is among those of a list that start on one of some lines
abbrev pub any_among : List ℕ → Starts → ℕ → Bool
any_among lines ss i = list_any (λ (line : ℕ). starts_among line ss i) lines

-- whether statement i of a program starts on one of some lines
abbrev pub on_lines : Program → List ℕ → ℕ → Bool
on_lines p lines = any_among lines (program_starts p)

-- how many numbers below n are in a set
abbrev pub count_below : (ℕ → Bool) → ℕ → ℕ
count_below set zero = 0
count_below set (suc n) = if set n then suc (count_below set n) else count_below set n

-- the number of a statement among those of a set, counted from 1
abbrev pub number_among : (ℕ → Bool) → ℕ → ℕ
number_among set i = suc (count_below set i)

-- ---- lines

abbrev pub shown_words : Shown → Bytes
shown_words (shown.Number n) = signed_decimal n
shown_words shown.Null = codes "null"
shown_words (shown.Index i) = decimal i

-- each value stands after one space
abbrev pub values_words : List Shown → Bytes
values_words [] = []
values_words (v ∷ vs) = codes " " ++ (shown_words v ++ values_words vs)

-- the line of an event whose statement has the number k
abbrev pub event_line : ℕ → List Shown → Bytes
event_line k values = decimal k ++ (codes ":" ++ (values_words values ++ codes "\n"))

-- the lines of events, whose statements are numbered so
abbrev pub event_lines : (ℕ → ℕ) → List Event → Bytes
event_lines number [] = []
event_lines number (e ∷ es) = event_line (number e.statement) e.values ++ event_lines number es

-- the lines of those events of a trace whose statements are in a set
abbrev pub lines_at : (ℕ → Bool) → Trace → Bytes
lines_at set t = event_lines (number_among set) (at set t.events)

-- the trace of a program at the statements that start on some lines of its text
abbrev pub trace_words : Program → List ℕ → Trace → Bytes
trace_words p lines = lines_at (on_lines p lines)
