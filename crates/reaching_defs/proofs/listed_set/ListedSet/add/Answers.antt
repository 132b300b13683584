use Rattle.std.proofs.Common.{◌≡◌, ◌<◌, ◌⊎◌, ◌↔◌, List, ℕ, [], ◌∷◌, ◌++◌, false, length, Contains, sym, ap, ◌∙◌, subst, arith, rules}
use Rattle.std.specs.Prelude.{vec_len, vec_capacity}
use Rattle.std.proofs.lemmas.List.{get_or_default}
use Rattle.bit_rows.specs.Sets.{has}
use Rattle.reaching_defs.specs.Listings.{Listing}
use Rattle.reaching_defs.proofs.ListingLemmas.{room_for, added_marked, added_new}
use Rattle.reaching_defs.proofs.listed_set.ListedSet.add.Goals as goal

pub push_reserved-requires : goal.push_reserved-requires
push_reserved-requires c =
    let i = c.self.inside in
    let w = c.args.w in
    let low : w < length i.marks.items = omega (arith, c.requires, ap (λ (x : Listing). x.bound) c.self.view_is) in
    let none : has i.marks.items w ≡ false = get_or_default i.marks.items w false _ low ∙ sym c.index.ensures ∙ c.if-not-index.true in
    let size : vec_len i.members ≡ length i.members.items = search rules in
    omega (arith, size, room_for i.marks.items i.members.items (vec_capacity i.members) c.self.invariant w low none)

pub invariant_of-self : goal.invariant_of-self
invariant_of-self c =
    let i = c.self.inside in
    let w = c.args.w in
    let e = c.push_reserved.ensures in
    let low : w < length i.marks.items = omega (arith, c.requires, ap (λ (x : Listing). x.bound) c.self.view_is) in
    let none : has i.marks.items w ≡ false = get_or_default i.marks.items w false _ low ∙ sym c.index.ensures ∙ c.if-not-index.true in
    rw (e.items, e.capacity) (added_marked i.marks.items i.members.items (vec_capacity i.members) c.self.invariant w low none)

pub returns-then-not-index-clause-exact : goal.returns-then-not-index-clause-exact
returns-then-not-index-clause-exact c = λ (u : ℕ).
    let w = c.args.w in
    let old = c.args.self.now.members in
    let same = ap (λ (x : Listing). x.members ++ w ∷ []) c.self.view_is in
    subst (λ (xs : List ℕ). Contains xs u ↔ (Contains old u ⊎ (u ≡ w))) (sym (c.push_reserved.ensures.items ∙ same)) (added_new old w u)
