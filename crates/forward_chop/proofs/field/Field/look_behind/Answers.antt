use Rattle.std.proofs.Common.{◌↔◌, ℕ, sym, ap, ◌∙◌, subst}
use Rattle.std.specs.Prelude.{IsTrue}
use Rattle.bit_rows.specs.Sets.{has}
use Rattle.rule_closure.specs.Rules.{RuleSystem}
use Rattle.matched_paths.proofs.ChainLaws.{derived_of_back}
use Rattle.forward_chop.specs.Fields.{HaveOnePremise, IsBackFrom, IsOutOf}
use Rattle.forward_chop.proofs.BackLaws.{from_one}
use Rattle.forward_chop.proofs.field.Field.look_behind.Goals as goal

pub returns-clause-fitted : goal.returns-clause-fitted
returns-clause-fitted c =
    let f = c.mark_outs.ensures.fitted in
    let kept = c.close.ensures.kept in
    record {
      order = f.order;
      few = f.few;
      ahead_size = f.ahead_size;
      behind_size = ap (λ (r : RuleSystem). r.size) kept ∙ f.behind_size;
      reached_long = f.reached_long;
      reaching_long = c.close.ensures.size ∙ f.reaching_long;
      behind_one = subst (λ (r : RuleSystem). HaveOnePremise r.rules) (sym kept) f.behind_one;
    }

pub returns-clause-exact : goal.returns-clause-exact
returns-clause-exact c = λ k.
    let old = c.args.self.now in
    let mid = c.mark_outs.new.self in
    let marked = c.mark_outs.ensures.exact in
    let out : ℕ → Type 0 = IsOutOf old.range c.args.wanted.now c.args.way_in in
    let e = c.close.ensures.exact k in
    let both : IsTrue (has c.close.new.set k) ↔ IsBackFrom mid.behind.rules out k = (
      λ h. let r = from_one mid.behind.rules mid.reaching c.mark_outs.ensures.fitted.behind_one (e.0 h) in record { start = r.start; here = (marked r.start).0 r.here; goes = r.goes },
      λ b. e.1 (derived_of_back ((marked b.start).1 b.here) b.goes),
    ) in
    subst (λ (r : RuleSystem). IsTrue (has c.close.new.set k) ↔ IsBackFrom r.rules out k) c.mark_outs.ensures.changed.behind_same both
