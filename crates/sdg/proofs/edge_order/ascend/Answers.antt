use Rattle.std.proofs.Common.{sym, subst}
use Rattle.std.specs.Prelude.{Contains}
use Rattle.std.proofs.lemmas.List.Filters.{dedup_is}
use Rattle.std.proofs.lemmas.List.Kept.{Contains-dedup, Contains-from_dedup, IsStrictlySortedBy-dedup}
use Rattle.std.proofs.lemmas.List.Sorted.{Contains-permutation, IsPermutation-sym}
use Rattle.std.proofs.lemmas.Map.Keys.{Less-from_sorted}
use Rattle.dep_model.specs.contracts.edge.EdgeOrd as order
use Rattle.dep_model.specs.contracts.edge.EdgePartialEq as alike
use Rattle.dep_model.specs.declared.edge.Edge.{Edge}
use Rattle.dep_model.specs.EdgeOrder.{AreAscendingEdges}
use Rattle.pdg.proofs.EdgeLess.{edge_cmp}
use Rattle.sdg.proofs.EdgeSorting.{edge_total, edge_equiv, edge_same, before_by_cmp}
use Rattle.sdg.proofs.edge_order.ascend.Goals as goal

pub returns-clause-ascending : goal.returns-clause-ascending
returns-clause-ascending c =
    let is = dedup_is _ _ _ c.dedup.ensures.filtered in
    let strictly = IsStrictlySortedBy-dedup edge_total {E = alike.TheImpl.eq-value.it} order.TheImpl.Laws.matches_eq-law _ c.sort_unstable.ensures.sorted in
    subst AreAscendingEdges (sym is) (λ i j (d : Edge) lt within. before_by_cmp _ _ (Less-from_sorted edge_cmp _ i j d strictly lt within))

pub returns-clause-same : goal.returns-clause-same
returns-clause-same c =
    let is = dedup_is _ _ _ c.dedup.ensures.filtered in
    let moved = c.sort_unstable.ensures.permutation in
    λ (x : Edge). (
      (λ h. Contains-permutation _ _ x (IsPermutation-sym _ _ moved) (Contains-from_dedup alike.TheImpl.eq-value.it _ x (subst (λ xs. Contains xs x) is h))),
      (λ h. subst (λ xs. Contains xs x) (sym is) (Contains-dedup edge_equiv edge_same _ x (Contains-permutation _ _ x moved h))),
    )
