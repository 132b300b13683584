-- One list without a place more.
use Rattle.std.proofs.Common.{arith}
use Rattle.effect_rows.proofs.NotedLemmas.{empty_more}
use Rattle.effect_rows.proofs.tables.empty_rows.Goals as goal

pub loop-at-preserved : goal.loop-at-preserved
loop-at-preserved c = record {
  within = omega (arith, c.loop-at-test.true);
  empty = empty_more c.loop-at.at c.loop-at.rows.items c.push.new.self.items c.new.result c.loop-at.invariant.empty c.new.ensures.items c.in_ok-push.ensures.items;
}
