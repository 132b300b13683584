-- The union of a function's control and flow edges is its graph.
use Rattle.std.proofs.Common.{◌≡◌, ◌⊎◌, ◌↔◌, inl, inr, List, Contains, sym, subst}
use Rattle.dep_model.specs.declared.edge.Edge.{Edge}
use Rattle.pdg.specs.Laws.{UnionIsFunctionGraph}

-- the union of lists is that of equal lists
pub union_of_equals : (zs es xs ys control flow : List Edge) → zs ≡ es → xs ≡ control → ys ≡ flow
    → ((e : Edge) → Contains es e ↔ (Contains xs e ⊎ Contains ys e)) → (e : Edge) → Contains zs e ↔ (Contains control e ⊎ Contains flow e)
union_of_equals zs es xs ys control flow same same_xs same_ys union e =
    subst (λ l. Contains l e ↔ (Contains control e ⊎ Contains flow e)) (sym same)
    (subst (λ l. Contains es e ↔ (Contains l e ⊎ Contains flow e)) same_xs
    (subst (λ l. Contains es e ↔ (Contains xs e ⊎ Contains l e)) same_ys (union e)))

pub union_is_function_graph : UnionIsFunctionGraph
union_is_function_graph p a f control flow g are_control are_flow ascending union = record {
  ascending = ascending;
  edges_are = λ e. (
    λ m. elim ((union e).0 m) [ inl h ↦ inl ((are_control e).0 h) | inr h ↦ inr ((are_flow e).0 h) ],
    λ k. (union e).1 (elim k [ inl h ↦ inl ((are_control e).1 h) | inr h ↦ inr ((are_flow e).1 h) ]),
  );
}
