use Rattle.std.proofs.Common.{◌≡◌, suc, List, ◌∷◌, length, refl, sym, ap, subst, ◌∙◌, arith}
use Rattle.c_tree.specs.declared.limits.LimitName.{LimitName}
use Rattle.c_tree.specs.declared.limits.LimitName.TheVariants as limit
use Rattle.dep_model.specs.DoingEffects.{the_input}
use Rattle.dep_model.specs.LocationObjects.{AreSizes, all_structs, locations_of}
use Rattle.dep_model.specs.declared.graph_fault.GraphFault.TheVariants.{Limit}
use Rattle.dep_model.specs.declared.location.Location.{Location}
use Rattle.dep_model.specs.declared.locations.objects.Object.{Object}
use Rattle.dep_model.proofs.LocationCounts.{counted_above, counted_within}
use Rattle.dep_model.proofs.LocationLaws.{listed_objects, more_than_variables}
use Rattle.dep_model.proofs.locations.Locations.of.Goals as goal

pub same_limit : (n : LimitName) → Limit limit.Locations ≡ Limit n → n ≡ limit.Locations
same_limit limit.Locations e = refl
same_limit n e = cc

pub returns-then-len-clause-above : goal.returns-then-len-clause-above
returns-then-len-clause-above c = λ n e. (same_limit n e, omega (arith, c.if-len.true, c.len.ensures, more_than_variables c.args.p.now))

pub returns-then-location_count-gt-MAX_LOCATIONS-clause-above : goal.returns-then-location_count-gt-MAX_LOCATIONS-clause-above
returns-then-location_count-gt-MAX_LOCATIONS-clause-above c = λ n e.
    let p = c.args.p.now in
    let own = c.as_slice-2.ensures.value ∙ c.in_ok-objects.ensures in
    let all = ap (λ (ls : List Location). length ls) (listed_objects p) in
    let same = ap (λ (os : List Object). suc (length (locations_of p os))) own in
    let above = counted_above p c.as_slice-2.result.now c.as_slice.result.now c.location_count.result c.location_count.ensures
    (subst (λ xs. AreSizes xs (all_structs p)) (sym c.as_slice.ensures.value) c.in_ok-sizes.ensures) c.if-location_count-gt-MAX_LOCATIONS.true in
    (same_limit n e, omega (arith, above, all, same))

pub returns-clause-list : goal.returns-clause-list
returns-clause-list c =
    let p = c.args.p.now in
    c.in_ok-list.ensures ∙ ap (λ (os : List Object). the_input ∷ locations_of p os) (c.as_slice-3.ensures.value ∙ c.in_ok-objects.ensures) ∙ sym (listed_objects p)

pub returns-clause-within : goal.returns-clause-within
returns-clause-within c =
    let p = c.args.p.now in
    let own = c.as_slice-2.ensures.value ∙ c.in_ok-objects.ensures in
    let all = ap (λ (ls : List Location). length ls) (listed_objects p) in
    let same = ap (λ (os : List Object). suc (length (locations_of p os))) own in
    let within = counted_within p c.as_slice-2.result.now c.as_slice.result.now c.location_count.result c.location_count.ensures
    (subst (λ xs. AreSizes xs (all_structs p)) (sym c.as_slice.ensures.value) c.in_ok-sizes.ensures) c.if-location_count-gt-MAX_LOCATIONS.false in
    omega (arith, within, all, same)
