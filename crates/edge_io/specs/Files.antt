-- Lists of files, each a name and its bytes.
use Rattle.std.specs.Prelude.{ℕ, ◌<◌, List, length, find, Option, IsSomeAnd}
use Rattle.std.specs.Option.{option_map}
use Rattle.std.specs.Str.{bytes_eq}

-- the bytes of the first file with this name
abbrev pub bytes_under : List (List ℕ × List ℕ) → List ℕ → Option (List ℕ)
bytes_under files name = option_map (λ file. file.1) (find (λ file. bytes_eq file.0 name) files)

-- there is such a file, and its bytes are more than these
abbrev pub IsLonger : List (List ℕ × List ℕ) → List ℕ → ℕ → Type 0
IsLonger files name most = IsSomeAnd (bytes_under files name) (λ bytes. most < length bytes)
