-- Options and other words are mixed behind a command's name; sorting tells them apart.
use Rattle.std.specs.Prelude.{ℕ, List, [], ◌∷◌, ◌++◌, drop, fold, Option, None, Some}
use Rattle.clap.specs.Lexer.{long_of}

abbrev pub Bytes : Type 0
Bytes = List ℕ

-- the other words, the options with their values, each in order, and the option that waits for the next word as its value
pub record Sorted : Type 0 where
  pub others : List Bytes
  pub given : List (Bytes × Bytes)
  pub waiting : Option Bytes

abbrev pub none_sorted : Sorted
none_sorted = record { others = []; given = []; waiting = None }

-- a word as an option: the name and the value of `--name=value`, the name alone of `--name`
abbrev pub option_in : Bytes → Option (Bytes × Option Bytes)
option_in = long_of

abbrev pub other_sorted : Sorted → Bytes → Option (Bytes × Option Bytes) → Sorted
other_sorted s word None = record s { others = s.others ++ word ∷ [] }
other_sorted s word (Some (name, None)) = record s { waiting = Some name }
other_sorted s word (Some (name, Some value)) = record s { given = s.given ++ (name, value) ∷ [] }

abbrev pub next_sorted : Sorted → Bytes → Option Bytes → Sorted
next_sorted s word None = other_sorted s word (option_in word)
next_sorted s word (Some name) = record s { given = s.given ++ (name, word) ∷ []; waiting = None }

-- after one more word
abbrev pub and_sorted : Sorted → Bytes → Sorted
and_sorted s word = next_sorted s word s.waiting

-- the words behind the first one
abbrev pub sorted : List Bytes → Sorted
sorted words = fold and_sorted none_sorted (drop 1 words)
