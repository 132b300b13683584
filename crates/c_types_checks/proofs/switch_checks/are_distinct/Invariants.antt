use Rattle.std.proofs.Common.{◌≡◌, drop, map}
use Rattle.std.specs.Borrow.{Bor}
use Rattle.std.specs.Ordering.{int_eq}
use Rattle.indexmap.specs.IndexSet.{contains}
use Rattle.c_tree.specs.declared.raw.statement.RawLabel.{RawLabel}
use Rattle.c_types_checks.specs.SwitchChecks.{are_distinct, case_values, are_apart}
use Rattle.c_types_checks.proofs.switch_checks.are_distinct.Given as goal

abbrev pub invariant-loop-label : goal.invariant-loop-label
invariant-loop-label l =
    are_distinct (case_values l.t (map (λ (x : Bor RawLabel). x.now) l.labels))
    ≡ are_apart (contains int_eq l.seen) (case_values l.t (map (λ (x : Bor RawLabel). x.now) (drop l.label-index l.labels)))
