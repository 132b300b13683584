use Rattle.std.proofs.Common.{◌<◌, ◌↔◌, ℕ, All, length, sym, subst}
use Rattle.std.specs.Prelude.{IsTrue}
use Rattle.bit_rows.specs.Sets.{has}
use Rattle.dep_model.specs.declared.graph.Graph.{Graph}
use Rattle.forward_chop.specs.Begun.{IsMarkedAhead}
use Rattle.forward_chop.specs.Chops.{IsForward}
use Rattle.forward_chop.proofs.BegunLaws.{forward_read, whole_stays}
use Rattle.forward_chop.proofs.chopper.Chopper.forward.Goals as goal

pub invariant_of-self : goal.invariant_of-self
invariant_of-self c =
    let i = c.self.invariant in
    record {
      index = i.index;
      whole = whole_stays c.self.inside.graph c.self.inside.whole c.mark_ahead.new.self c.mark_ahead.ensures.changed i.whole;
      parts = i.parts;
      laid = i.laid;
      all = i.all;
      covered = i.covered;
    }

pub returns-clause-exact : goal.returns-clause-exact
returns-clause-exact c = λ v.
    let g = c.self.inside.graph in
    let n = length g.vertices in
    let i = c.self.invariant in
    let from = c.args.from.now in
    let into = c.collect_first.new.into in
    let f = c.mark_ahead.new.self in
    let same = c.self.view_is in
    let size = c.len-size.ensures in
    let whole = whole_stays g c.self.inside.whole f c.mark_ahead.ensures.changed i.whole in
    let inside = subst (λ (h : Graph). All (λ u. u < length h.vertices) from) (sym same) c.requires.inside in
    let marked = subst (λ (k : ℕ). IsMarkedAhead k from f) size c.mark_ahead.ensures.exact in
    let found = forward_read g i.index.shaped f whole from inside marked v in
    let read = subst (λ (k : ℕ). IsTrue (has into v) ↔ ((v < k) × IsTrue (has f.reached v))) size (c.collect_first.ensures.exact v) in
    let is : IsTrue (has into v) ↔ IsForward g.edges from v = (λ h. found.0 (read.0 h), λ r. read.1 (found.1 r)) in
    subst (λ (h : Graph). IsTrue (has into v) ↔ IsForward h.edges from v) same is
