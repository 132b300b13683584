-- Pairs of vertices of one function are among those of its stretch.
use Rattle.std.proofs.Common.{ℕ, List}
use Rattle.std.specs.Prelude.{All}
use Rattle.dep_model.specs.declared.skeleton.Pair.{Pair}
use Rattle.dep_model.specs.declared.stretch.Stretch.{Stretch}
use Rattle.dep_model.specs.declared.vertex.Vertex.{Vertex}
use Rattle.dep_model.specs.Pairs.{IsPairIn}
use Rattle.dep_model.specs.Stretches.{IsStretchOf}
use Rattle.reaching_defs.specs.Stretches.{IsPairAmong}

pub pairs_among : (vs : List Vertex) (f : ℕ) (s : Stretch) (pairs : List Pair) → IsStretchOf vs f s → All (IsPairIn vs f) pairs → All (IsPairAmong s.first s.size) pairs
pairs_among vs f s pairs of own i d low =
    let pair = own i d low in
    let from = (of.all _).0 pair.from_in in
    let to = (of.all _).0 pair.to_in in
    record { from_low = from.0; from_high = from.1; to_low = to.0; to_high = to.1 }
