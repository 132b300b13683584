use Rattle.std.proofs.Common.{length, ap, ◌∙◌, arith}
use Rattle.bit_rows.specs.Sets.{has}
use Rattle.dep_model.specs.Criteria.{criterion_of}
use Rattle.slice_engine.proofs.KeptSets.{vertices_from}
use Rattle.slice_engine.proofs.slicing.vertices_at.Goals as goal

pub criterion_set-requires : goal.criterion_set-requires
criterion_set-requires c = let same = ap length c.as_slice.ensures in let few = c.requires.few in omega (arith, same, few)

pub returns : goal.returns
returns c =
    let tests = c.in_ok-tests.tests.items in
    let criterion = c.in_ok-set.ensures ∙ ap (λ vs. criterion_of (has c.as_slice-2.result.now) vs) c.as_slice.ensures ∙ ap (λ ts. criterion_of (has ts) c.args.graph.now.vertices) c.as_slice-2.ensures.value in
    vertices_from c.args.p.now c.args.graph.now c.args.starts.now c.args.line tests c.in_ok-set.set c.in_ok-found.found.items c.requires.starts c.in_ok-tests.ensures criterion c.in_ok-found.ensures.members c.in_ok-found.ensures.ascending
