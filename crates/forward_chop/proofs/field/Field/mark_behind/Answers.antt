use Rattle.std.proofs.Common.{◌↔◌, sym, subst}
use Rattle.std.specs.Prelude.{IsTrue}
use Rattle.bit_rows.specs.Sets.{has}
use Rattle.rule_closure.specs.Rules.{Derived, RuleSystem}
use Rattle.forward_chop.proofs.field.Field.mark_behind.Goals as goal

pub returns-clause-exact : goal.returns-clause-exact
returns-clause-exact c = record {
  seeds = c.begin.new.marks;
  seeds_are = c.begin.ensures.exact;
  marks_are = λ k. subst (λ (r : RuleSystem). IsTrue (has c.close.new.set k) ↔ Derived r.rules c.begin.new.marks k) (sym c.close.ensures.kept) (c.close.ensures.exact k);
}
