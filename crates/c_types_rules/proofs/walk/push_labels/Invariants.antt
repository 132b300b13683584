use Rattle.std.proofs.Common.{◌≡◌, ◌++◌, map, take}
use Rattle.std.specs.Borrow.{Bor}
use Rattle.c_tree.specs.declared.raw.statement.RawLabel.{RawLabel}
use Rattle.c_types_rules.proofs.walk.push_labels.Given as goal

abbrev pub invariant-loop-label : goal.invariant-loop-label
invariant-loop-label l = map (λ (x : Bor RawLabel). x.now) l.all.items ≡ map (λ (x : Bor RawLabel). x.now) l.initial.all.items ++ take l.label-index l.labels
