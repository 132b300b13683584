use Rattle.std.proofs.Common.{◌≡◌, drop, map}
use Rattle.std.specs.Borrow.{Bor}
use Rattle.c_tree.specs.declared.raw.statement.RawLabel.{RawLabel}
use Rattle.c_types_base.specs.Tables.{scope_of}
use Rattle.c_types_checks.specs.SwitchChecks.{check_label}
use Rattle.c_types_checks.specs.Checking.{all_kept}
use Rattle.c_types_checks.proofs.switch_checks.check_each_label.Given as goal

abbrev pub invariant-loop-label : goal.invariant-loop-label
invariant-loop-label l =
    all_kept (check_label l.tables.raw.now (scope_of l.tables)) (map (λ (x : Bor RawLabel). x.now) l.labels)
    ≡ all_kept (check_label l.tables.raw.now (scope_of l.tables)) (map (λ (x : Bor RawLabel). x.now) (drop l.label-index l.labels))
