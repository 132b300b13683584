use Rattle.pdg.proofs.UnionLaws.{union_of_equals}
use Rattle.pdg.proofs.assemble.Goals as goal

pub returns-clause-exact : goal.returns-clause-exact
returns-clause-exact c = union_of_equals _ _ _ _ _ _ c.from_vec.ensures c.as_slice.ensures.value c.as_slice-2.ensures.value c.in_ok-edges.ensures.exact
