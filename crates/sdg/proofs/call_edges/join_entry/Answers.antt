use Rattle.std.proofs.Common.{◌≡◌, ◌++◌, [], ◌∷◌, ◌<◌, length, get_or, ◌≤◌, ℕ, List, refl, ap, ◌∙◌, subst, arith}
use Rattle.dep_model.specs.declared.edge.Label.TheVariants as label
use Rattle.dep_model.specs.Graphs.{edge}
use Rattle.sdg.specs.VertexLists.{list_at}
use Rattle.sdg.proofs.AddLemmas.{turns_more, turns_end, adds_one}
use Rattle.sdg.proofs.SiteTurns.{CallsAt, entries_all}
use Rattle.sdg.proofs.call_edges.join_entry.Goals as goal

pub loop-entry-preserved : goal.loop-entry-preserved
loop-entry-preserved c =
    let l = c.loop-entry in
    let k = c.args.call in
    let xs = list_at c.args.places.now.entries c.args.site.callee in
    let same = c.at-entry-items.ensures in
    let low = subst (λ r. l.entry-index < length r) same c.loop-entry-test.true in
    let pushed = c.in_ok-push.ensures.items ∙ ap (λ r. l.edges.items ++ edge k (get_or r l.entry-index 0) (label.Call k) ∷ []) same in
    turns_more (λ n e. e ≡ edge k n (label.Call k)) xs c.args.edges.now.items l.entry-index 0 l.edges.items c.push.new.self.items low l.invariant
    (adds_one l.edges.items c.push.new.self.items (edge k (get_or xs l.entry-index 0) (label.Call k)) (λ e. e ≡ edge k (get_or xs l.entry-index 0) (label.Call k)) pushed refl (λ e q. q))

pub returns : goal.returns
returns c =
    let l = c.loop-entry in
    let xs = list_at c.args.places.now.entries c.args.site.callee in
    let high : length xs ≤ l.entry-index = subst (λ (r : List ℕ). length r ≤ l.entry-index) c.at-entry-items.ensures (omega (arith, c.loop-entry-test.false)) in
    entries_all c.args.vertices.now c.args.places.now c.args.site c.args.call c.args.edges.now.items l.edges.items c.requires.places
    (turns_end (CallsAt c.args.call) xs c.args.edges.now.items l.entry-index l.edges.items high l.invariant)
