-- Pairs of vertices as control edges.
use Rattle.dep_model.specs.declared.edge.Edge.{Edge}
use Rattle.dep_model.specs.declared.edge.Label.TheVariants.{Control}
use Rattle.dep_model.specs.declared.skeleton.Pair.{Pair}

abbrev pub control_edge : Pair → Edge
control_edge x = record { from = x.from; to = x.to; label = Control }
