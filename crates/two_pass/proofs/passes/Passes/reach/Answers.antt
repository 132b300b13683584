use Rattle.std.proofs.Common.{sym, ap, ◌∙◌, subst}
use Rattle.rule_closure.specs.Rules.{RuleSystem}
use Rattle.two_pass.specs.Ready.{FindsReached}
use Rattle.two_pass.proofs.PassLaws.{reach_is}
use Rattle.two_pass.proofs.passes.Passes.reach.Goals as goal

pub invariant_of-self : goal.invariant_of-self
invariant_of-self c =
    let kept = c.close.ensures.kept in
    let i = c.self.invariant in
    record {
      few = i.few;
      twice = ap (λ (r : RuleSystem). r.size) kept ∙ i.twice;
      room = c.close.ensures.size ∙ c.seed.ensures.size ∙ i.room;
      finds = subst (FindsReached c.self.inside.size c.self.inside.edges.items) (sym kept) i.finds;
    }

pub returns-clause-exact : goal.returns-clause-exact
returns-clause-exact c =
    let i = c.self.inside in
    reach_is c.args.self.now i.size i.edges.items i.closure c.args.from.now c.seed.new.marks c.close.new.set c.collect.new.into c.self.view_is c.self.invariant.finds c.requires.inside c.seed.ensures.exact c.close.ensures.exact c.collect.ensures.exact
