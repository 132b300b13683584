use Rattle.std.proofs.Common.{false, ◌<◌, ◌≤◌, length, ap, ◌∙◌, arith}
use Rattle.std.proofs.lemmas.List.{length-replicate}
use Rattle.bit_rows.specs.Sets.{has}
use Rattle.dep_model.specs.Criteria.{criterion_of}
use Rattle.slice_engine.proofs.CriterionLaws.{begun_next, begun_all, wanted_at, length-criterion}
use Rattle.slice_engine.proofs.criterion.criterion_set.Goals as goal

pub loop-v-preserved : goal.loop-v-preserved
loop-v-preserved c =
    let vs = c.args.vertices.now in
    let test = has c.args.tests.now in
    let size = ap length c.in_ok-set.ensures ∙ length-replicate _ false in
    let lt : c.loop-v.v < length vs = let low = c.loop-v-test.true in let end = c.len-v-end.ensures in omega (arith, low, end, size) in
    let long = length-criterion test vs in
    begun_next (criterion_of test vs) c.loop-v.v c.loop-v.set c.add_if.new.set c.is_wanted.result (omega (arith, lt, long)) (c.is_wanted.ensures ∙ wanted_at test vs c.loop-v.v _ lt) c.add_if.ensures c.loop-v.invariant

pub returns : goal.returns
returns c =
    let vs = c.args.vertices.now in
    let test = has c.args.tests.now in
    let size = ap length c.in_ok-set.ensures ∙ length-replicate _ false in
    let long = length-criterion test vs in
    let all : length (criterion_of test vs) ≤ c.loop-v.v = let past = c.loop-v-test.false in let end = c.len-v-end.ensures in omega (arith, past, end, size, long) in
    begun_all (criterion_of test vs) c.loop-v.v c.loop-v.set all c.loop-v.invariant
