-- Ranges that get more, pair by pair.
use Rattle.std.proofs.Common.{◌⊎◌, ℕ, inl, inr, List, [], ◌++◌, refl, ◌∙◌}
use Rattle.std.proofs.lemmas.List.Elements.{Contains-append_cases}
use Rattle.rule_closure.proofs.ListLemmas.{contains_none}
use Rattle.dep_model.specs.declared.edge.Edge.{Edge}
use Rattle.matched_paths.specs.declared.vertex_range.VertexRange.{VertexRange}
use Rattle.forward_chop.specs.Outs.{AreOrdered, HaveWidened, PairsBy, PairsFrom}

pub widened_none : (P : ℕ → ℕ → Type 0) (outs : List VertexRange) → AreOrdered outs → ((x o : ℕ) → P x o → ⊥) → HaveWidened P outs outs
widened_none P outs order none = record { long = refl; order = order; kept = λ x v h. h; held = λ x o p. absurd (none x o p) }

pub widened_both : (P Q R : ℕ → ℕ → Type 0) (old mid new : List VertexRange) → ((x o : ℕ) → R x o → P x o ⊎ Q x o) → HaveWidened P old mid → HaveWidened Q mid new → HaveWidened R old new
widened_both P Q R old mid new cases h k = record {
  long = k.long ∙ h.long;
  order = k.order;
  kept = λ x v i. k.kept x v (h.kept x v i);
  held = λ x o r. elim (cases x o r) [ inl p ↦ k.kept x o (h.held x o p) | inr q ↦ k.held x o q ];
}

pub by_none : (enter x o : ℕ) → PairsBy enter [] x o → ⊥
by_none enter x o h = contains_none h.leave h.listed

pub by_more : (enter : ℕ) (es more : List Edge) (x o : ℕ) → PairsBy enter (es ++ more) x o → PairsBy enter es x o ⊎ PairsBy enter more x o
by_more enter es more x o h = elim (Contains-append_cases es more h.leave h.listed) [
  | inl m ↦ inl (record { leave = h.leave; listed = m; x_is = h.x_is; o_is = h.o_is })
  | inr m ↦ inr (record { leave = h.leave; listed = m; x_is = h.x_is; o_is = h.o_is })
]

pub from_none : (exits : List (List Edge)) (x o : ℕ) → PairsFrom [] exits x o → ⊥
from_none exits x o h = contains_none h.edge h.listed

pub from_more : (es more : List Edge) (exits : List (List Edge)) (x o : ℕ) → PairsFrom (es ++ more) exits x o → PairsFrom es exits x o ⊎ PairsFrom more exits x o
from_more es more exits x o h = elim (Contains-append_cases es more h.edge h.listed) [
  | inl m ↦ inl (record { edge = h.edge; listed = m; call = h.call; opens = h.opens; pairs = h.pairs })
  | inr m ↦ inr (record { edge = h.edge; listed = m; call = h.call; opens = h.opens; pairs = h.pairs })
]
