use Rattle.std.proofs.Common.{◌∙◌, ap, map, subst}
use Rattle.std.specs.Borrow.{Bor}
use Rattle.c_tree.specs.declared.raw.statement.RawLabel.{RawLabel}
use Rattle.c_language.specs.Phrases as phrases
use Rattle.c_types_base.specs.Tables.{scope_of}
use Rattle.c_types_checks.specs.SwitchChecks.{check_switch}
use Rattle.c_types_checks.specs.Checking.{Decides}
use Rattle.c_types_base.specs.Stretches.{labels_in}
use Rattle.c_types_rules.proofs.walk.switch_head.Goals as goal

pub returns : goal.returns
returns c =
    c.number_on.ensures (phrases.Switches c.args.test.now (labels_in c.args.list.now))
    (subst (λ ls. Decides (check_switch c.args.tables.now.raw.now (scope_of c.args.tables.now) c.args.test.now ls) c.check_switch-verdict.result)
    (ap (map (λ (x : Bor RawLabel). x.now)) c.as_slice.ensures.value ∙ c.in_ok-labels.ensures) c.check_switch-verdict.ensures)
