-- At most one of the quantities of a program's graph is above its number and the first that is.
use Rattle.std.proofs.Common.{◌≡◌, length, refl, ap, arith}
use Rattle.c_tree.specs.declared.limits.LimitName.{LimitName}
use Rattle.c_tree.specs.declared.program.Program.{Program}
use Rattle.dep_model.specs.SystemGraph.{vertices_of}
use Rattle.dep_model.proofs.OneAnalysis.{one_analysis}
use Rattle.slice_engine.specs.GraphLimits.{IsAboveGraphLimit, locations, vertices, words}

pub one_graph_limit : (p : Program) (m n : LimitName) → IsAboveGraphLimit p m → IsAboveGraphLimit p n → m ≡ n
one_graph_limit p m n (locations many) (locations also) = refl
one_graph_limit p m n (locations many) (vertices few is more) = absurd (omega (arith, many, few))
one_graph_limit p m n (locations many) (words few is small more) = absurd (omega (arith, many, few))
one_graph_limit p m n (vertices few is more) (locations many) = absurd (omega (arith, many, few))
one_graph_limit p m n (vertices few is more) (vertices low also many) = refl
one_graph_limit p m n (vertices {a} few is more) (words {a = b} low also small many) =
    let same = ap (λ c. length (vertices_of p c)) (one_analysis p a b is also) in absurd (omega (arith, same, more, small))
one_graph_limit p m n (words few is small more) (locations many) = absurd (omega (arith, many, few))
one_graph_limit p m n (words {a} few is small more) (vertices {a = b} low also many) =
    let same = ap (λ c. length (vertices_of p c)) (one_analysis p a b is also) in absurd (omega (arith, same, many, small))
one_graph_limit p m n (words few is small more) (words low also less many) = refl
