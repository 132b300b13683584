use Rattle.std.proofs.Common.{◌≡◌, drop}
use Rattle.c_types_base.specs.Tables.{scope_of}
use Rattle.c_types_checks.specs.Checking.{all_kept}
use Rattle.c_types_checks.specs.InitialiserChecks.{check_item}
use Rattle.c_types_checks.specs.Stands.{stand_of}
use Rattle.c_types_checks.proofs.initialiser_checks.check_each_item.Given as goal

abbrev pub invariant-loop-item : goal.invariant-loop-item
invariant-loop-item l =
    all_kept (check_item l.tables.raw.now (scope_of l.tables) (stand_of l.stand) l.element) l.items
    ≡ all_kept (check_item l.tables.raw.now (scope_of l.tables) (stand_of l.stand) l.element) (drop l.item-index l.items)
