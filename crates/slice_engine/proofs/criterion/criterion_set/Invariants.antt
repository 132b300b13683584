use Rattle.bit_rows.specs.Sets.{has}
use Rattle.dep_model.specs.Criteria.{criterion_of}
use Rattle.slice_engine.proofs.CriterionLaws.{IsBegun}
use Rattle.slice_engine.proofs.criterion.criterion_set.Given as goal

abbrev pub invariant-loop-v : goal.invariant-loop-v
invariant-loop-v l = IsBegun (criterion_of (has l.tests) l.vertices) l.v l.set
