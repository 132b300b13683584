use Rattle.std.proofs.Common.{map}
use Rattle.std.specs.Borrow.{Bor}
use Rattle.c_tree.specs.declared.raw.statement.RawLabel.{RawLabel}
use Rattle.c_types_rules.proofs.StatementSteps.{labels_more}
use Rattle.c_types_rules.proofs.walk.labels_of.Goals as goal

pub loop-arm-preserved : goal.loop-arm-preserved
loop-arm-preserved c =
    labels_more c.args.arms.now c.loop-arm.arm-index c.arm-item.result (map (λ (x : Bor RawLabel). x.now) c.loop-arm.all.items) (map (λ (x : Bor RawLabel). x.now) c.push_labels.new.all.items) c.as_slice.result.now
    c.loop-arm-test.true c.arm-item.is c.loop-arm.invariant c.in_ok-push_labels.ensures c.as_slice.ensures
