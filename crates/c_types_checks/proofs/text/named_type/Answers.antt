use Rattle.std.proofs.Common.{Some, option_map, ap, sym, ◌∙◌}
use Rattle.c_types_checks.specs.Pointers.{pointers_to}
use Rattle.c_types_checks.proofs.PointerLemmas.{named_is}
use Rattle.c_types_checks.proofs.text.named_type.Goals as goal

pub returns-in-None : goal.returns-in-None
returns-in-None c =
    ap (option_map (pointers_to c.args.name.now.stars)) (sym c.in-None.is ∙ c.in_ok-written_type.ensures)
    ∙ sym (named_is c.args.tables.now.raw.now c.args.name.now.stars c.args.name.now.base)

pub returns-in_ok-pointers_to-in-Some : goal.returns-in_ok-pointers_to-in-Some
returns-in_ok-pointers_to-in-Some c =
    ap (λ u. Some u) c.in_ok-pointers_to-in-Some.ensures
    ∙ ap (option_map (pointers_to c.args.name.now.stars)) (sym c.in-Some.is ∙ c.in_ok-written_type.ensures)
    ∙ sym (named_is c.args.tables.now.raw.now c.args.name.now.stars c.args.name.now.base)
