use Rattle.std.proofs.Common.{◌<◌, ◌↔◌, ℕ, All, length, sym, subst}
use Rattle.std.specs.Prelude.{IsTrue}
use Rattle.bit_rows.specs.Sets.{has}
use Rattle.dep_model.specs.declared.graph.Graph.{Graph}
use Rattle.forward_chop.specs.Begun.{IsMarkedAhead}
use Rattle.forward_chop.specs.Chops.{IsInChop}
use Rattle.forward_chop.proofs.BegunLaws.{ahead_stays, chop_is, whole_stays}
use Rattle.forward_chop.proofs.RoundLaws.{open_stays}
use Rattle.forward_chop.proofs.chopper.Chopper.chop.Goals as goal

pub begin_chop-requires-clause-whole : goal.begin_chop-requires-clause-whole
begin_chop-requires-clause-whole c =
    let g = c.self.inside.graph in
    whole_stays g c.mark_ahead.new.self c.mark_behind.new.self c.mark_behind.ensures.changed
    (whole_stays g c.self.inside.whole c.mark_ahead.new.self c.mark_ahead.ensures.changed c.self.invariant.whole)

pub invariant_of-self : goal.invariant_of-self
invariant_of-self c =
    let g = c.self.inside.graph in
    let gone = c.settle.ensures.gone in
    let open_ = open_stays g c.begin_chop.new.wanted c.settle.new.wanted c.begin_chop.new.into c.settle.new.into gone.0 c.begin_chop.ensures.open_ gone.1 in
    record {
      index = c.self.invariant.index;
      whole =
          whole_stays g c.mark_ahead.new.self c.mark_behind.new.self c.mark_behind.ensures.changed
          (whole_stays g c.self.inside.whole c.mark_ahead.new.self c.mark_ahead.ensures.changed c.self.invariant.whole);
      parts = c.settle.ensures.parts;
      laid = open_.laid;
      all = open_.all;
      covered = open_.covered;
    }

pub returns-clause-exact : goal.returns-clause-exact
returns-clause-exact c = λ v.
    let g = c.self.inside.graph in
    let i = c.self.invariant in
    let from = c.args.from.now in
    let to = c.args.to.now in
    let first = c.mark_ahead.new.self in
    let f = c.mark_behind.new.self in
    let same = c.self.view_is in
    let changed = c.mark_behind.ensures.changed in
    let whole = whole_stays g first f changed (whole_stays g c.self.inside.whole first c.mark_ahead.ensures.changed i.whole) in
    let from_in = subst (λ (h : Graph). All (λ u. u < length h.vertices) from) (sym same) c.requires.from_in in
    let to_in = subst (λ (h : Graph). All (λ u. u < length h.vertices) to) (sym same) c.requires.to_in in
    let marked = subst (λ (k : ℕ). IsMarkedAhead k from first) c.len-size.ensures c.mark_ahead.ensures.exact in
    let ahead = ahead_stays (length g.vertices) from first f c.mark_behind.ensures.same changed.ahead_same marked in
    let gone = c.settle.ensures.gone in
    let is =
    chop_is g c.self.inside.index.starts c.self.inside.index.exits i.index f whole from to from_in to_in ahead c.mark_behind.ensures.exact c.begin_chop.new.wanted c.settle.new.wanted c.begin_chop.new.into c.settle.new.into gone.0
    c.begin_chop.ensures gone.1 c.settle.ensures.down v in
    subst (λ (h : Graph). IsTrue (has c.settle.new.into v) ↔ IsInChop h.edges from to v) same is
