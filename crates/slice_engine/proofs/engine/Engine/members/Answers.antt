use Rattle.std.proofs.Common.{sym, subst}
use Rattle.slice_engine.specs.Engine.{AreMembers, HasPlaces, IsPrepared}
use Rattle.slice_engine.proofs.KeptSets.{members_are, members_size, has_places}
use Rattle.slice_engine.proofs.engine.Engine.members.Goals as goal

pub members_at-requires : goal.members_at-requires
members_at-requires c = record {
  facts = c.self.inside.facts;
  prepared = subst (IsPrepared c.self.inside.program c.self.inside.graph c.self.inside.facts) (sym c.deref.ensures.value) c.self.invariant.prepared;
  passes_are = c.in_ok-passes.ensures;
}

pub returns-clause-members : goal.returns-clause-members
returns-clause-members c =
    subst (λ p. AreMembers p c.args.c.line c.in_ok-set.set) c.self.view_is (members_are c.self.inside.program c.self.inside.graph c.args.c.line c.in_ok-set.set c.self.invariant.prepared.is_graph c.in_ok-set.ensures.members)

pub returns-clause-size : goal.returns-clause-size
returns-clause-size c =
    let size = members_size c.self.inside.program c.self.inside.graph c.args.c.line c.in_ok-set.set c.in_ok-set.ensures.members in
    subst (λ p. HasPlaces p c.in_ok-set.set) c.self.view_is (has_places c.self.inside.program c.self.inside.graph c.in_ok-set.set c.self.invariant.prepared.is_graph size)
