use Rattle.std.proofs.Common.{rules, ◌≡◌, ℤ, true, not, cond}
use Rattle.std.specs.Ordering.{int_eq}
use Rattle.indexmap.specs.IndexSet.{contains}
use Rattle.c_types_checks.proofs.LabelLemmas.{apart_added}
use Rattle.c_types_checks.proofs.switch_checks.add_value.Goals as goal

pub returns-in_ok-insert_value-in-Some : goal.returns-in_ok-insert_value-in-Some
returns-in_ok-insert_value-in-Some c = λ rest.
    let is_new : c.in_ok-insert_value-in-Some.field-0 ≡ not (contains int_eq c.args.seen.now c.in-Some.value) = search rules in
    let holds : (y : ℤ) → contains int_eq c.insert_value.new.seen y ≡ cond (int_eq c.in-Some.value y) true (contains int_eq c.args.seen.now y) = search rules in
    apart_added (contains int_eq c.args.seen.now) (contains int_eq c.insert_value.new.seen) c.args.t c.args.label.now rest c.in-Some.value c.in_ok-insert_value-in-Some.field-0
    c.in-Some.ensures is_new holds
