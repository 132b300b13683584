use Rattle.std.proofs.Common.{ℕ, ap, ◌∙◌, sym, subst}
use Rattle.rule_closure.specs.Links.{Linked}
use Rattle.rule_closure.proofs.Marking.{twins, close_is}
use Rattle.rule_closure.proofs.RuleLemmas.{least_from_derived}
use Rattle.rule_closure.proofs.closure.Closure.close.Goals as goal

pub close-requires-clause-twins : goal.close-requires-clause-twins
close-requires-clause-twins c =
    let a = c.self.inside in
    subst (λ l. (v w u : ℕ) → Linked l v w u → Linked l w v u) (sym (c.as_slice.ensures.value ∙ c.self.invariant.links_are)) (twins a.rules.items)

pub returns-clause-exact : goal.returns-clause-exact
returns-clause-exact c =
    let a = c.self.inside in
    close_is c.args.self.now.rules a.rules.items c.as_slice.result.now c.args.set.now c.close.new.set (ap (λ s. s.rules) c.self.view_is) (c.as_slice.ensures.value ∙ c.self.invariant.links_are) c.close.ensures.exact

pub returns-clause-least : goal.returns-clause-least
returns-clause-least c =
    let a = c.self.inside in
    least_from_derived c.args.self.now.rules c.args.set.now c.close.new.set c.close.ensures.size
    (close_is c.args.self.now.rules a.rules.items c.as_slice.result.now c.args.set.now c.close.new.set (ap (λ s. s.rules) c.self.view_is) (c.as_slice.ensures.value ∙ c.self.invariant.links_are) c.close.ensures.exact)
