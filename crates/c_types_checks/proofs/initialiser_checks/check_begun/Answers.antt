use Rattle.std.proofs.Common.{List, subst}
use Rattle.c_tree.specs.declared.raw.expr.RawExpr.{RawExpr}
use Rattle.c_types_base.specs.Tables.{scope_of}
use Rattle.c_types_checks.specs.Checking.{Decides}
use Rattle.c_types_checks.specs.InitialiserChecks.{check_items}
use Rattle.c_types_checks.specs.Stands.{stand_of}
use Rattle.c_types_checks.proofs.BegunLemmas.{begun_one, begun_items}
use Rattle.c_types_checks.proofs.initialiser_checks.check_begun.Goals as goal

pub returns-in-One : goal.returns-in-One
returns-in-One c =
    begun_one c.args.tables.now.raw.now (scope_of c.args.tables.now) (stand_of c.args.stand) c.args.var.now c.in_ok-t.t c.check_one.result c.args.init.now _ c.in-One.is c.in_ok-t.ensures c.check_one.ensures

pub returns : goal.returns
returns c =
    begun_items c.args.tables.now.raw.now (scope_of c.args.tables.now) (stand_of c.args.stand) c.args.var.now c.in_ok-t.t c.check_items.result c.args.init.now _ c.in-Items.is c.in_ok-t.ensures (subst (λ (es : List RawExpr). Decides (check_items c.args.tables.now.raw.now (scope_of c.args.tables.now) (stand_of c.args.stand) es c.in_ok-t.t) c.check_items.result) c.as_slice.ensures c.check_items.ensures)
