use Rattle.std.proofs.Common.{ap}
use Rattle.std.specs.List.{list_any}
use Rattle.std.specs.Ordering.{int_eq}
use Rattle.indexmap.specs.IndexSet.{contains}
use Rattle.c_types_checks.proofs.LabelLemmas.{apart_at_first}
use Rattle.c_types_checks.proofs.switch_checks.are_distinct.Goals as goal

pub loop-label-init : goal.loop-label-init
loop-label-init c = apart_at_first (contains int_eq c.new-seen.result) (λ y. ap (list_any (int_eq y)) c.new-seen.ensures.empty) _
