use Rattle.dep_model.proofs.StructOrder.{well_formed_in_order}
use Rattle.numbered_texts.proofs.NumbersButLines.{statements_numbered}
use Rattle.pointer_tests.proofs.WellFormed.{well_listed}
use Rattle.pointer_tests.proofs.typed_rows.skeleton_by.Goals as goal

pub of-requires-clause-ordered : goal.of-requires-clause-ordered
of-requires-clause-ordered g c = well_formed_in_order c.args.p.now c.requires

pub find-requires-clause-once : goal.find-requires-clause-once
find-requires-clause-once g c = well_listed c.args.p.now c.requires

pub lay_out-requires-clause-once : goal.lay_out-requires-clause-once
lay_out-requires-clause-once g c = well_listed c.args.p.now c.requires

pub lay_out-requires-clause-numbered : goal.lay_out-requires-clause-numbered
lay_out-requires-clause-numbered g c = statements_numbered c.args.p.now c.requires
