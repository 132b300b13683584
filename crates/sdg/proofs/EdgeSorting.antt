-- Sorted edges ascend.
use Rattle.std.proofs.Common.{◌≡◌, true, refl, sym, ◌∙◌}
use Rattle.std.specs.Cmp.{IsTotalOrder, IsEquivalence}
use Rattle.std.specs.declared.cmp.Ordering.TheVariants.{Less, Equal, Greater}
use Rattle.std.specs.declared.cmp.Ordering.{Ordering}
use Rattle.std.specs.Ordering.{is_eq}
use Rattle.std.proofs.lemmas.Bool.{false≢true}
use Rattle.dep_model.specs.contracts.edge.EdgeEq as equal
use Rattle.dep_model.specs.contracts.edge.EdgePartialEq as alike
use Rattle.dep_model.specs.contracts.edge.EdgeOrd as order
use Rattle.dep_model.specs.declared.edge.Edge.{Edge}
use Rattle.dep_model.specs.EdgeOrder.{IsBefore}
use Rattle.pdg.proofs.EdgeLess.{edge_cmp, told_less, told_equal}

pub edge_total : IsTotalOrder edge_cmp
edge_total = order.TheImpl.Laws.total-law

pub before_by_cmp : (e f : Edge) → edge_cmp e f ≡ Less → IsBefore e f
before_by_cmp e f less = told_less e f (edge_cmp e f) refl less

pub edge_equiv : IsEquivalence alike.TheImpl.eq-value.it
edge_equiv = equal.TheImpl.Laws.laws-law

tied : (o : Ordering) → is_eq o ≡ true → o ≡ Equal
tied Less h = absurd (false≢true h)
tied Equal h = refl
tied Greater h = absurd (false≢true h)

pub edge_same : (e f : Edge) → alike.TheImpl.eq-value.it e f ≡ true → e ≡ f
edge_same e f h = told_equal e f (edge_cmp e f) refl (tied (edge_cmp e f) (sym (order.TheImpl.Laws.matches_eq-law e f) ∙ h))
