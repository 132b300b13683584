use Rattle.std.proofs.Common.{ℕ, List, false, length, Contains, sym, ap, ◌∙◌, subst}
use Rattle.std.proofs.lemmas.Bool.{false≢true}
use Rattle.std.proofs.lemmas.List.{length-replicate}
use Rattle.rule_closure.proofs.ListLemmas.{contains_none}
use Rattle.bit_rows.specs.Sets.{has}
use Rattle.bit_rows.proofs.SetLemmas.{has-empty}
use Rattle.summary_edges.proofs.agenda.Agenda.new.Goals as goal

pub returns-clause-agenda : goal.returns-clause-agenda
returns-clause-agenda c =
    let is = c.in_ok-marks.ensures.items_if_clones_equal (λ y h. h) in
    record {
      long = ap length is ∙ length-replicate c.args.functions false;
      listed = λ p. (λ m. absurd (contains_none p (subst (λ (ps : List ℕ). Contains ps p) c.new-places.ensures.items m)), λ up. absurd (false≢true (sym (has-empty c.args.functions p) ∙ sym (ap (λ ms. has ms p) is) ∙ up)));
    }

pub returns-clause-none : goal.returns-clause-none
returns-clause-none c = λ p. ap (λ ms. has ms p) (c.in_ok-marks.ensures.items_if_clones_equal (λ y h. h)) ∙ has-empty c.args.functions p
