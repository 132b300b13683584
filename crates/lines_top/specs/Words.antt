-- What the words of a call ask for: they are those of the command `slice`, without its name.
use Rattle.std.specs.Prelude.{ℕ, List, ◌∷◌, Option, codes}
use Rattle.call_words.specs.Grammar.{IsInGrammar}
use Rattle.call_words.specs.Requests as requests
use Rattle.call_words.specs.Requests.{Asked}
use Rattle.call_words.specs.Sorting.{Bytes}

-- the words of the call of `slice` that names the same file and lines
abbrev pub as_slice : List Bytes → List Bytes
as_slice words = codes "slice" ∷ words

-- the words name a file and lines
abbrev pub AskForLines : List Bytes → Type 0
AskForLines words = IsInGrammar (as_slice words)

-- that file, and those lines
abbrev pub file_of : List Bytes → Option Bytes
file_of words = requests.file_of (as_slice words)

abbrev pub lines_of : List Bytes → List ℕ
lines_of words = requests.lines_of (as_slice words)

-- slices are asked for
pub data IsForSlices : Asked → Type 0 where
  slices : {file : Bytes} {lines : List ℕ} {workers : ℕ} → IsForSlices (Asked.slice file lines workers)
