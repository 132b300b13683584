use Rattle.std.proofs.Common.{sym, subst}
use Rattle.std.proofs.lemmas.List.Elements.{Contains-get_or}
use Rattle.two_pass.specs.Ready.{HasMembers}
use Rattle.slice_engine.proofs.FirstMembers.{members_inside}
use Rattle.slice_engine.proofs.KeptSets.{reaches_from}
use Rattle.slice_engine.proofs.graph.reach.Goals as goal

pub reach-requires-clause-inside : goal.reach-requires-clause-inside
reach-requires-clause-inside c = λ k d low.
    let numbers = c.as_slice.result.now in
    let members = subst (λ xs. HasMembers xs c.args.set.now) (sym c.as_slice.ensures.value) c.in_ok-from.ensures.members in
    members_inside c.args.set.now numbers c.args.passes.now.size members c.requires _ (Contains-get_or numbers k d low)

pub returns-clause-reached : goal.returns-clause-reached
returns-clause-reached c =
    let members = subst (λ xs. HasMembers xs c.args.set.now) (sym c.as_slice.ensures.value) c.in_ok-from.ensures.members in
    reaches_from c.args.passes.now.edges c.as_slice.result.now c.args.set.now c.reach.new.into members c.reach.ensures.exact c.reach.ensures.size
