-- A program and its projection, where it is asked what both do, and no criterion is told.
use Rattle.std.specs.Prelude.{ℕ, List, Bool, false}
use Rattle.c_tree.specs.declared.program.Program.{Program}
use Rattle.dep_model.specs.SystemGraph.{Analysis, vertices_of}
use Rattle.projection.specs.Kept.{Kept}
use Rattle.projection.specs.KeptVertices.{kept_of}
use Rattle.simulation.specs.Abreast.{SliceFollows}
use Rattle.simulation.specs.Settings.{Setting}
use Rattle.simulation_locations.specs.Chained.{chained}
use Rattle.simulation_places.specs.Counterparts.{ranks_of, counterpart_of}

-- no statement is of the criterion
abbrev pub none_of : ℕ → Bool
none_of i = false

-- a program with a set of its vertices, and another that is its projection to that, on an input: what is wanted is what kept vertices may
-- use, by chains without a kill, and memories agree up to a renaming of blocks
abbrev pub beside : (p q : Program) → Analysis → List Bool → (input : List ℕ) → Setting
beside p q a kept input =
    let k : Kept ℕ = kept_of kept (vertices_of p a) p in
    chained p a kept (counterpart_of q k (ranks_of k) input none_of none_of) (λ f. ⊥)

-- the projection does the acts of the original that both share, in their order, and agrees with it before each of them and at the end
abbrev pub Follows : (p q : Program) → Analysis → List Bool → (input : List ℕ) → Type 0
Follows p q a kept input = SliceFollows (beside p q a kept input)
