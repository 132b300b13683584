use Rattle.std.proofs.Common.{◌≡◌}
use Rattle.dep_model.specs.LocationRows.{points_of}
use Rattle.vertex_layout.specs.MadeRows.{AreVertexRows}
use Rattle.vertex_layout.specs.RowWork.{work_on}
use Rattle.vertex_layout.proofs.rows.find.Given as goal

abbrev pub invariant-loop-v : goal.invariant-loop-v
invariant-loop-v l = (l.work ≡ work_on l.p l.t) × AreVertexRows l.p (points_of l.p l.t) l.vertices l.v l.rows
