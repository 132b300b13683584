use Rattle.std.proofs.Common.{arith}
use Rattle.sdg.specs.SiteEdges.{IsSiteEdge}
use Rattle.sdg.proofs.AddLemmas.{turns_more, turns_end}
use Rattle.sdg.proofs.SiteTurns.{sites_all}
use Rattle.sdg.proofs.part_edges.join_sites.Goals as goal

pub loop-site-preserved : goal.loop-site-preserved
loop-site-preserved c =
    let l = c.loop-site in
    turns_more (IsSiteEdge c.args.vertices.now) c.args.sites.now c.args.edges.now.items l.site-index (record { function = 0; statement = 0; callee = 0 }) l.edges.items c.join_site.new.edges.items
    c.loop-site-test.true l.invariant c.in_ok-join_site.ensures

pub returns : goal.returns
returns c =
    let l = c.loop-site in
    sites_all c.args.vertices.now c.args.sites.now c.args.edges.now.items l.edges.items
    (turns_end (IsSiteEdge c.args.vertices.now) c.args.sites.now c.args.edges.now.items l.site-index l.edges.items (omega (arith, c.loop-site-test.false)) l.invariant)
