use Rattle.std.proofs.Common.{ap, ◌∙◌}
use Rattle.bit_rows.specs.Sets.{has}
use Rattle.dep_model.specs.Criteria.{criterion_of}
use Rattle.slice_engine.proofs.KeptSets.{criterion_size, members_from}
use Rattle.slice_engine.proofs.slicing.members_at.Goals as goal

pub reach-requires : goal.reach-requires
reach-requires c =
    let criterion = c.in_ok-set.ensures ∙ ap (λ vs. criterion_of (has c.as_slice-2.result.now) vs) c.as_slice.ensures in
    criterion_size c.args.p.now c.args.graph.now c.args.starts.now c.args.passes.now (has c.as_slice-2.result.now) c.in_ok-set.set c.requires criterion

pub returns-clause-members : goal.returns-clause-members
returns-clause-members c =
    let tests = c.in_ok-tests.tests.items in
    let criterion = c.in_ok-set.ensures ∙ ap (λ vs. criterion_of (has c.as_slice-2.result.now) vs) c.as_slice.ensures ∙ ap (λ ts. criterion_of (has ts) c.args.graph.now.vertices) c.as_slice-2.ensures.value in
    members_from c.args.p.now c.args.graph.now c.args.starts.now c.args.passes.now c.args.line tests c.in_ok-set.set c.reach.new.set c.requires c.in_ok-tests.ensures criterion c.in_ok-reach.ensures.reached
