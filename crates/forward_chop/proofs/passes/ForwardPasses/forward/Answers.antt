use Rattle.std.proofs.Common.{◌<◌, ◌↔◌, ◌∙◌, ℕ, All, sym, ap, subst}
use Rattle.std.specs.Prelude.{IsTrue}
use Rattle.bit_rows.specs.Sets.{has}
use Rattle.rule_closure.specs.Rules.{RuleSystem}
use Rattle.two_pass.specs.Ready.{PassGraph}
use Rattle.forward_chop.specs.Chops.{IsForward}
use Rattle.forward_chop.specs.Turned.{FindsForward}
use Rattle.forward_chop.proofs.passes.ForwardPasses.forward.Goals as goal

pub invariant_of-self : goal.invariant_of-self
invariant_of-self c =
    let kept = c.close.ensures.kept in
    let i = c.self.invariant in
    record {
      few = i.few;
      twice = ap (λ (r : RuleSystem). r.size) kept ∙ i.twice;
      room = c.close.ensures.size ∙ c.begin.ensures.size ∙ i.room;
      finds = subst (FindsForward c.self.inside.size c.self.inside.edges.items) (sym kept) i.finds;
    }

pub returns-clause-exact : goal.returns-clause-exact
returns-clause-exact c = λ v.
    let i = c.self.inside in
    let from = c.args.from.now in
    let into = c.collect_first.new.into in
    let same = c.self.view_is in
    let inside : All (λ u. u < i.size) from = subst (λ (h : PassGraph). All (λ u. u < h.size) from) (sym same) c.requires.inside in
    let found = c.self.invariant.finds from c.begin.new.marks inside c.begin.ensures.exact v in
    let marked = c.close.ensures.exact v in
    let read = c.collect_first.ensures.exact v in
    let is : IsTrue (has into v) ↔ IsForward i.edges.items from v = (
      λ h. let r = read.0 h in found.1 (r.0, marked.0 r.1),
      λ f. let d = found.0 f in read.1 (d.0, marked.1 d.1),
    ) in
    subst (λ (h : PassGraph). IsTrue (has into v) ↔ IsForward h.edges from v) same is
