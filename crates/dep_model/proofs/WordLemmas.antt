-- What reaches a set by matched words.
use Rattle.std.proofs.Common.{ℕ, Bool, List, [], refl}
use Rattle.std.specs.Prelude.{IsTrue}
use Rattle.bit_rows.specs.Sets.{has}
use Rattle.dep_model.specs.declared.edge.Edge.{Edge}
use Rattle.dep_model.specs.Words.{ReachesAny}
use Rattle.dep_model.specs.Words as words

-- a vertex reaches the set that it is in
pub reaches_itself : (edges : List Edge) (s : List Bool) (v : ℕ) → IsTrue (has s v) → ReachesAny edges s v
reaches_itself edges s v h = record { goal = v; wanted = h; reaches = record { path = []; joins = refl; up = []; down = []; rises = words.flat; falls = words.flat; spells = refl } }
