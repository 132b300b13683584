use Rattle.std.proofs.Common.{◌++◌, sym, ap, ◌∙◌, subst}
use Rattle.sdg.specs.CallSites.{sites_from, AreSites}
use Rattle.sdg.proofs.SiteLemmas.{sites_are}
use Rattle.sdg.proofs.call_sites.find.Goals as goal

pub returns : goal.returns
returns c =
    let found = c.in_ok-functions.ensures ∙ ap (λ xs. xs ++ sites_from 0 c.as_slice.result.now) c.new-found.ensures.items ∙ ap (sites_from 0) c.as_slice.ensures in
    subst (AreSites c.args.p.now) (sym found) (sites_are c.args.p.now)
