use Rattle.std.proofs.Common.{◌↔◌, ℕ, subst}
use Rattle.std.specs.Prelude.{IsTrue}
use Rattle.bit_rows.specs.Sets.{has}
use Rattle.dep_model.specs.declared.graph.Graph.{Graph}
use Rattle.forward_chop.specs.Chops.{IsInChop}
use Rattle.slicer_top.proofs.chops.chop_set.Goals as goal

pub returns-clause-exact : goal.returns-clause-exact
returns-clause-exact c =
    subst (λ (g : Graph). (v : ℕ) → IsTrue (has c.chop.new.into v) ↔ IsInChop g.edges c.args.from.now c.args.to.now v) c.in_ok-chopper.ensures c.chop.ensures.exact
