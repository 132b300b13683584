use Rattle.std.proofs.Common.{sym, subst}
use Rattle.dep_model.specs.declared.graph.Graph.{Graph}
use Rattle.forward_chop.specs.Whole.{IsReady}
use Rattle.forward_chop.proofs.chopper.Chopper.prepare.Goals as goal

pub invariant_of-result : goal.invariant_of-result
invariant_of-result c =
    subst (λ (h : Graph). IsReady h c.in_ok-index.index.starts c.in_ok-index.index.exits c.in_ok-whole.whole c.in_ok-parts.parts.items c.in_ok-wanted.wanted) (sym c.in_ok-graph.ensures)
    (record {
      index = c.in_ok-index.ensures;
      whole = c.in_ok-whole.ensures;
      parts = c.in_ok-parts.ensures;
      laid = c.in_ok-wanted.ensures.laid;
      all = c.in_ok-wanted.ensures.all;
      covered = c.in_ok-wanted.ensures.covered;
    })
