use Rattle.std.proofs.Common.{sym, subst}
use Rattle.std.specs.Prelude.{Contains}
use Rattle.std.proofs.lemmas.List.Filters.{dedup_is}
use Rattle.std.proofs.lemmas.List.Kept.{Contains-dedup, Contains-from_dedup, IsStrictlySortedBy-dedup}
use Rattle.std.proofs.lemmas.List.Sorted.{Contains-permutation, IsPermutation-sym}
use Rattle.std.proofs.lemmas.Map.Keys.{Less-from_sorted}
use Rattle.dep_model.specs.declared.skeleton.Pair.{Pair}
use Rattle.dep_model.specs.PairOrder.{AreAscending}
use Rattle.dep_model.proofs.PairLemmas.{pair_cmp, pair_eq, pair_total, pair_equiv, pair_ties, pair_same, precedes_by_cmp}
use Rattle.dep_model.proofs.pair_order.ascend.Goals as goal

pub returns-clause-ascending : goal.returns-clause-ascending
returns-clause-ascending c =
    let is = dedup_is _ _ _ c.dedup.ensures.filtered in
    let strictly = IsStrictlySortedBy-dedup pair_total {E = pair_eq} pair_ties _ c.sort_unstable.ensures.sorted in
    subst AreAscending (sym is) (λ i j (d : Pair) lt within. precedes_by_cmp _ _ (Less-from_sorted pair_cmp _ i j d strictly lt within))

pub returns-clause-same : goal.returns-clause-same
returns-clause-same c =
    let is = dedup_is _ _ _ c.dedup.ensures.filtered in
    let moved = c.sort_unstable.ensures.permutation in
    λ (x : Pair). (
      (λ h. Contains-permutation _ _ x (IsPermutation-sym _ _ moved) (Contains-from_dedup pair_eq _ x (subst (λ xs. Contains xs x) is h))),
      (λ h. subst (λ xs. Contains xs x) (sym is) (Contains-dedup pair_equiv pair_same _ x (Contains-permutation _ _ x moved h))),
    )
