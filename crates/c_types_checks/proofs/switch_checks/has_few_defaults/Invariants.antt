use Rattle.std.proofs.Common.{◌≡◌, ◌+◌, cond, drop, map}
use Rattle.std.specs.Borrow.{Bor}
use Rattle.c_tree.specs.declared.raw.statement.RawLabel.{RawLabel}
use Rattle.c_types_checks.specs.SwitchChecks.{default_count}
use Rattle.c_types_checks.proofs.switch_checks.has_few_defaults.Given as goal

abbrev pub invariant-loop-label : goal.invariant-loop-label
invariant-loop-label l =
    default_count (map (λ (x : Bor RawLabel). x.now) l.labels) ≡ cond l.has_one 1 0 + default_count (map (λ (x : Bor RawLabel). x.now) (drop l.label-index l.labels))
