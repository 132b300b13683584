use Rattle.std.proofs.Common.{◌≡◌, ◌↔◌, ℕ, length, Contains, subst, arith, rules}
use Rattle.std.specs.Prelude.{vec_len, vec_capacity}
use Rattle.reaching_defs.specs.Listings.{Listing}
use Rattle.reaching_defs.proofs.ListingLemmas.{same_moved, moved_marked, moved_ascend}
use Rattle.reaching_defs.proofs.listed_set.ListedSet.sort.Goals as goal

pub invariant_of-self : goal.invariant_of-self
invariant_of-self c =
    let i = c.self.inside in
    let e = c.sort_unstable.ensures in
    let new = c.sort_unstable.new.self in
    let before : vec_len i.members ≡ length i.members.items = search rules in
    let now : vec_len new ≡ length new.items = search rules in
    rw e.capacity (moved_marked i.marks.items i.members.items (vec_capacity i.members) c.self.invariant new.items e.permutation (omega (arith, before, now, e.len)))

pub returns-clause-exact : goal.returns-clause-exact
returns-clause-exact c = λ (u : ℕ).
    let i = c.self.inside in
    let new = c.sort_unstable.new.self.items in
    subst (λ (x : Listing). Contains new u ↔ Contains x.members u) c.self.view_is (same_moved i.marks.items i.members.items (vec_capacity i.members) c.self.invariant new c.sort_unstable.ensures.permutation u)

pub returns-clause-ascending : goal.returns-clause-ascending
returns-clause-ascending c =
    let i = c.self.inside in
    let e = c.sort_unstable.ensures in
    moved_ascend i.marks.items i.members.items (vec_capacity i.members) c.self.invariant c.sort_unstable.new.self.items e.permutation e.sorted
