-- Parts of a list that is written with commas.
use Rattle.std.specs.Prelude.{List, [], ◌∷◌, ◌++◌, codes}
use Rattle.c_language.specs.Words.{Bytes}

-- the texts, each behind a comma
abbrev pub behind_commas : List Bytes → Bytes
behind_commas [] = []
behind_commas (x ∷ xs) = codes ", " ++ (x ++ behind_commas xs)
