use Rattle.std.proofs.Common.{◌≡◌, ap, ◌∙◌, sym, subst, length}
use Rattle.rule_closure.specs.Links.{IsLinkWithin, links_of}
use Rattle.rule_closure.proofs.Marking.{links_in}
use Rattle.rule_closure.proofs.closure.Closure.prepare.Goals as goal

pub index-requires-clause-in_range : goal.index-requires-clause-in_range
index-requires-clause-in_range c = λ k l h at.
    let e = links_in c.args.rules.items c.args.size c.as_slice-2.result.now c.requires (c.as_slice-2.ensures.value ∙ c.in_ok-links.ensures ∙ ap links_of c.as_slice.ensures.value) k l h at in
    let n : length c.as_mut_slice.result.now ≡ c.args.size = c.as_mut_slice.ensures.len ∙ c.in_ok-heads.ensures.len in
    subst (λ m. IsLinkWithin m l) (sym n) e
