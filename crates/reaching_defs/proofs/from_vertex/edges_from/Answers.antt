use Rattle.std.proofs.Common.{◌+◌, ◌↔◌, ℕ, List, Contains, sym, subst, arith}
use Rattle.std.proofs.lemmas.Result.{on_ok_weaker}
use Rattle.reaching_defs.specs.Stretches.{FlowsAmong}
use Rattle.reaching_defs.proofs.EdgeLemmas.{appended}
use Rattle.reaching_defs.proofs.from_vertex.edges_from.Goals as goal

pub push_edges-requires-clause-few : goal.push_edges-requires-clause-few
push_edges-requires-clause-few c = λ (w : ℕ) m.
    let e = c.members.ensures in
    let low = e.below w (subst (λ (x : List ℕ). Contains x w) e.all m) in
    omega (arith, low, c.sort.ensures.bound, c.in_ok-find_all.ensures.rest.targets, c.requires.stretch_in, c.requires.few)

pub returns-clause-exact : goal.returns-clause-exact
returns-clause-exact c =
    let next = c.args.next.now in
    let s = c.args.s.now in
    let found = c.in_ok-find_all.ensures.exact in
    let sorted = c.sort.ensures.exact in
    let there : (w : ℕ) → Contains c.sort.new.self.members w ↔ FlowsAmong 0 s.defined.bits s next.pairs.items c.args.v (next.stretch.first + w) = λ w. ((λ m. (found w).0 ((sorted w).0 m)), (λ f. (sorted w).1 ((found w).1 f))) in
    let exact : (w : ℕ) → Contains c.members.result.now w ↔ FlowsAmong 0 s.defined.bits s next.pairs.items c.args.v (next.stretch.first + w) =
    subst (λ (x : List ℕ). (w : ℕ) → Contains x w ↔ FlowsAmong 0 s.defined.bits s next.pairs.items c.args.v (next.stretch.first + w)) (sym c.members.ensures.all) there in
    on_ok_weaker c.push_edges.result (appended next.stretch.first next.stretch.size s next.pairs.items c.requires.next.inside c.args.v c.members.result.now c.args.found.now.items c.push_edges.new.found.items exact) c.push_edges.ensures.exact
