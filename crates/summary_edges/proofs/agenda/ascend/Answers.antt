use Rattle.std.proofs.Common.{ℕ, ◌<◌, sym, subst}
use Rattle.std.specs.Prelude.{Contains}
use Rattle.std.specs.List.{AllPairs}
use Rattle.std.proofs.lemmas.Cmp.{nat_cmp_total, nat_eq_equiv}
use Rattle.std.proofs.lemmas.List.Filters.{dedup_is}
use Rattle.std.proofs.lemmas.List.Kept.{Contains-dedup, Contains-from_dedup, IsStrictlySortedBy-dedup}
use Rattle.std.proofs.lemmas.List.Sorted.{Contains-permutation, IsPermutation-sym}
use Rattle.std.proofs.lemmas.Map.Keys.{Less-from_sorted}
use Rattle.summary_edges.proofs.Numbers.{number_cmp, number_eq, number_ties, number_same, less_by_cmp}
use Rattle.summary_edges.proofs.agenda.ascend.Goals as goal

pub returns-clause-ascending : goal.returns-clause-ascending
returns-clause-ascending c =
    let is = dedup_is _ _ _ c.dedup.ensures.filtered in
    let strictly = IsStrictlySortedBy-dedup nat_cmp_total {E = number_eq} number_ties _ c.sort_unstable.ensures.sorted in
    subst (AllPairs (λ f h. f < h)) (sym is) (λ i j (d : ℕ) lt within. less_by_cmp _ _ (Less-from_sorted number_cmp _ i j d strictly lt within))

pub returns-clause-same : goal.returns-clause-same
returns-clause-same c =
    let is = dedup_is _ _ _ c.dedup.ensures.filtered in
    let moved = c.sort_unstable.ensures.permutation in
    λ (x : ℕ). (
      (λ h. Contains-permutation _ _ x (IsPermutation-sym _ _ moved) (Contains-from_dedup number_eq _ x (subst (λ xs. Contains xs x) is h))),
      (λ h. subst (λ xs. Contains xs x) (sym is) (Contains-dedup nat_eq_equiv number_same _ x (Contains-permutation _ _ x moved h))),
    )
