-- Edges whose ends ascend are ascending edges.
use Rattle.std.proofs.Common.{◌<◌, List, length, map, get_or, inl, inr, subst, sym, arith}
use Rattle.std.proofs.lemmas.List.{get_or-map, length-map}
use Rattle.dep_model.specs.declared.edge.Edge.{Edge}
use Rattle.dep_model.specs.declared.skeleton.Pair.{Pair}
use Rattle.dep_model.specs.EdgeOrder.{IsBefore, AreAscendingEdges}
use Rattle.dep_model.specs.PairOrder.{precedes, AreAscending}

abbrev pub ends : Edge → Pair
ends e = record { from = e.from; to = e.to }

pub ends_before : (e f : Edge) → precedes (ends e) (ends f) → IsBefore e f
ends_before e f (inl lt) = inl lt
ends_before e f (inr (same, lt)) = inr (same, inl lt)

pub ascending_by_ends : (es : List Edge) → AreAscending (map ends es) → AreAscendingEdges es
ascending_by_ends es h = λ i j d lt low.
    let high : j < length (map ends es) = subst (λ n. j < n) (sym (length-map es ends)) low in
    let first : i < length es = omega (arith, lt, low) in
    ends_before (get_or es i d) (get_or es j d) (subst (λ x. precedes x (ends (get_or es j d))) (get_or-map ends es i d (ends d) first) (subst (precedes (get_or (map ends es) i (ends d))) (get_or-map ends es j d (ends d) low) (h i j (ends d) lt high)))
