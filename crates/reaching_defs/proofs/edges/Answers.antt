use Rattle.std.proofs.Common.{◌↔◌, List, [], Contains, sym, ap, ◌∙◌, subst, arith}
use Rattle.dep_model.specs.declared.skeleton.Pair.{Pair}
use Rattle.dep_model.specs.EdgeOrder.{AreAscendingEdges}
use Rattle.dep_model.specs.declared.stretch.Stretch.{Stretch}
use Rattle.reaching_defs.specs.Arrivals.{IsAtRest}
use Rattle.reaching_defs.specs.RowFlow.{IsRowFlow}
use Rattle.reaching_defs.proofs.EdgeLemmas.{AreFound, order_of, none_ascend, found_begin, found_more, found_all}
use Rattle.reaching_defs.proofs.edges.Goals as goal

pub loop-v-init : goal.loop-v-init
loop-v-init c =
    let next = c.in_ok-next.next in
    let same = ap (λ (x : Stretch). x.size) c.in_ok-next.ensures.stretch in
    let base_is = ap (λ (x : Stretch). x.first) c.in_ok-next.ensures.stretch in
    let s = c.args.s.now in
    record {
      rest = subst (λ n. IsAtRest n c.in_ok-scratch.scratch) (sym same) c.in_ok-scratch.ensures;
      exact = subst (AreFound s next.pairs.items c.stretch_of-stretch.result.first) (sym c.new-found.ensures.items) (subst (λ b. AreFound s next.pairs.items b []) base_is (found_begin next.stretch.first next.stretch.size s next.pairs.items c.in_ok-next.ensures.right.inside));
      ascending = subst AreAscendingEdges (sym c.new-found.ensures.items) none_ascend;
    }

pub edges_from-requires-clause-before : goal.edges_from-requires-clause-before
edges_from-requires-clause-before c = λ e m. ((c.loop-v.invariant.exact e).0 m).0

pub loop-v-preserved : goal.loop-v-preserved
loop-v-preserved c =
    let e = c.in_ok-edges_from.ensures in
    let next = c.in_ok-next.next in
    record {
      rest = e.rest;
      exact = found_more next.stretch.first next.stretch.size c.args.s.now next.pairs.items c.in_ok-next.ensures.right.inside c.loop-v.v c.loop-v.found.items c.edges_from.new.found.items c.loop-v.invariant.exact e.exact;
      ascending = e.ascending;
    }

pub returns-clause-exact : goal.returns-clause-exact
returns-clause-exact c = λ e.
    let next = c.in_ok-next.next in
    let s = c.args.s.now in
    let es = c.loop-v.found.items in
    let base_is = ap (λ (x : Stretch). x.first) c.in_ok-next.ensures.stretch in
    let same = ap (λ (x : Stretch). x.size) c.in_ok-next.ensures.stretch in
    subst (λ (xs : List Pair). Contains es e ↔ IsRowFlow s (order_of xs) e) (c.in_ok-next.ensures.pairs ∙ c.as_slice-pairs.ensures)
    (found_all next.stretch.first next.stretch.size s next.pairs.items c.in_ok-next.ensures.right.inside c.loop-v.v es (omega (arith, base_is, same)) c.loop-v.invariant.exact e)
