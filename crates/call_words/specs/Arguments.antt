-- The words that the arguments of the program are.
use Rattle.std.specs.Prelude.{List, [], map, drop, Result, Ok, Err, String}
use Rattle.std.specs.String.{string_bytes}
use Rattle.std.specs.Vec.Iter.{into_iter_items}
use Rattle.std.specs.declared.vec.IntoIter.{IntoIter}
use Rattle.call_words.specs.Sorting.{Bytes}

-- the words of a call with these arguments: all but the first, which is the program's name; none where one of them isn't UTF-8
abbrev pub words_in : {A E : Type 0} → Result (IntoIter (String A) A) E → List Bytes
words_in (Ok arguments) = drop 1 (map string_bytes (into_iter_items arguments))
words_in (Err fault) = []
