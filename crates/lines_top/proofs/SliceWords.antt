-- Words in the grammar ask for slices.
use Rattle.std.proofs.Common.{◌≡◌, List, subst}
use Rattle.std.specs.Prelude.{Some, drop}
use Rattle.call_words.specs.Grammar.{word}
use Rattle.call_words.specs.Requests.{Asked, asked, numbers_of, value_given, workers_in}
use Rattle.call_words.specs.Sorting.{Bytes, sorted}
use Rattle.lines_top.specs.Words.{IsForSlices, as_slice}

same_asked : (a b : Asked) → Some a ≡ Some b → a ≡ b
same_asked a b h = cc

pub for_slices : (words : List Bytes) (a : Asked) → asked (as_slice words) ≡ Some a → IsForSlices a
for_slices words a is =
    let s = sorted (as_slice words) in
    subst IsForSlices (same_asked (Asked.slice (word s.others 0) (numbers_of (drop 1 s.others)) (workers_in (value_given s.given))) a is) IsForSlices.slices
