use Rattle.std.proofs.Common.{rules, ◌≡◌, Some, ◌-◌, length, slice_get, ap, sym, ◌∙◌}
use Rattle.c_types_checks.proofs.ReturnLemmas.{value_in, ends_by_last}
use Rattle.c_types_checks.proofs.head_checks.ends_with_value.Goals as goal

pub returns-in-Some : goal.returns-in-Some
returns-in-Some c =
    let last : slice_get c.args.body.now (length c.args.body.now - 1) ≡ Some c.in-Some.last.now = search rules in
    c.returns_value.ensures ∙ sym (ap value_in last) ∙ sym (ends_by_last c.args.body.now)
