use Rattle.std.proofs.Common.{ℕ, ◌<◌, Contains, subst}
use Rattle.std.specs.Prelude.{vec_capacity}
use Rattle.reaching_defs.specs.Listings.{Listing}
use Rattle.reaching_defs.proofs.ListingLemmas.{below_bound}
use Rattle.reaching_defs.proofs.listed_set.ListedSet.members.Goals as goal

pub returns-clause-below : goal.returns-clause-below
returns-clause-below c =
    let i = c.self.inside in
    subst (λ (x : Listing). (w : ℕ) → Contains x.members w → w < x.bound) c.self.view_is (below_bound i.marks.items i.members.items (vec_capacity i.members) c.self.invariant)
