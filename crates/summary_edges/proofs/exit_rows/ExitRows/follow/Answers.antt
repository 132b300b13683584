use Rattle.summary_edges.proofs.FillLaws.{GainsAt, inner_follows, inner_above, out_above}
use Rattle.summary_edges.proofs.SpreadLaws.{spread_none}
use Rattle.summary_edges.proofs.exit_rows.ExitRows.follow.Goals as goal

pub cross-requires-clause-label : goal.cross-requires-clause-label
cross-requires-clause-label c = c.in-Out.is

pub returns-in-Control-clause-spread : goal.returns-in-Control-clause-spread
returns-in-Control-clause-spread c =
    inner_follows c.args.g.now c.args.index.now c.requires.index c.args.known.now c.args.range c.args.edge c.args.self.now c.join_back.new.self c.join_back.result c.requires.edge c.in-Control.is c.join_back.ensures.spread

pub returns-in-Control-clause-above : goal.returns-in-Control-clause-above
returns-in-Control-clause-above c = inner_above c.args.g.now c.args.index.now c.requires.index c.args.known.now c.args.range c.args.edge c.join_back.new.self c.in-Control.is c.join_back.ensures.above

pub returns-in-Out-clause-spread : goal.returns-in-Out-clause-spread
returns-in-Out-clause-spread c = c.cross.ensures.spread

pub returns-in-Out-clause-above : goal.returns-in-Out-clause-above
returns-in-Out-clause-above c = out_above c.args.g.now c.args.index.now c.requires.index c.args.known.now c.args.range c.args.edge c.in-Out.call c.cross.new.self c.in-Out.is c.cross.ensures.above

pub returns-in-Call-clause-spread : goal.returns-in-Call-clause-spread
returns-in-Call-clause-spread c = spread_none (GainsAt c.args.g.now c.args.known.now c.args.range c.args.edge.to) _ c.args.self.now c.requires.table
