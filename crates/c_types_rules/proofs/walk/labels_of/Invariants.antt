use Rattle.std.proofs.Common.{◌≡◌, map, take}
use Rattle.std.specs.Borrow.{Bor}
use Rattle.c_tree.specs.declared.raw.statement.RawLabel.{RawLabel}
use Rattle.c_types_base.specs.Stretches.{labels_in}
use Rattle.c_types_rules.proofs.walk.labels_of.Given as goal

abbrev pub invariant-loop-arm : goal.invariant-loop-arm
invariant-loop-arm l = map (λ (x : Bor RawLabel). x.now) l.all.items ≡ labels_in (take l.arm-index l.arms)
