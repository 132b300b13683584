use Rattle.std.proofs.Common.{◌++◌, ap, ◌∙◌}
use Rattle.dep_model.specs.Doings.{body_doings}
use Rattle.sdg.specs.CallSites.{sites_in}
use Rattle.sdg.proofs.SiteLemmas.{functions_turn}
use Rattle.sdg.proofs.call_sites.functions.Goals as goal

pub loop-f-preserved : goal.loop-f-preserved
loop-f-preserved c =
    let l = c.loop-f in
    functions_turn c.args.list.now l.f c.index-list-f.result c.args.found.now.items l.found.items c.statements.new.found.items c.loop-f-test.true c.index-list-f.is l.invariant
    (c.in_ok-statements.ensures ∙ ap (λ b. l.found.items ++ sites_in l.f (body_doings b)) c.as_slice.ensures)
