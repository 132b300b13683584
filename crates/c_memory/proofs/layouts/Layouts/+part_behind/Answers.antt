use Rattle.std.proofs.Common.{rules, List, [], map, sym, ap, ◌∙◌}
use Rattle.std.specs.Option.{option_copied, option_map}
use Rattle.c_language.specs.declared.expr_type.ExprType.{ExprType}
use Rattle.c_meaning.specs.Cells.{cells_behind}
use Rattle.c_memory.specs.Counts.{counted}
use Rattle.c_memory.specs.Parts.{object_of}
use Rattle.c_memory.proofs.NumberLemmas.{member_turn, no_member_turn}
use Rattle.c_memory.proofs.layouts.Layouts.+part_behind.Goals as goal

pub returns-in-Some-at : goal.returns-in-Some-at
returns-in-Some-at t c =
    let are_counts = c.as_slice-counts.ensures.value ∙ c.self.invariant ∙ ap (λ (structs : List (List ExprType)). map counted (cells_behind [] structs)) c.self.view_is in
    member_turn c.args.self.now c.in-Some-Member-default.index c.args.path.now c.in-Some-Member-default.rest.now (record { layers = c.args.layers.now; base = c.args.base })
    c.members_of-members.result.now c.in-Some-at.member.now c.as_slice.result.now c.args.before c.member_count-inside.result c.saturating_add-sum.result
    (option_map object_of c.part_behind-in-Some-at.result) (search rules) c.members_of-members.ensures (sym c.at.ensures ∙ ap option_copied c.in-Some-at.is)
    (c.member_count-inside.ensures (cells_behind [] c.args.self.now) are_counts)
    c.saturating_add-sum.ensures c.as_slice.ensures c.part_behind-in-Some-at.ensures

pub returns-in-None-at : goal.returns-in-None-at
returns-in-None-at t c =
    no_member_turn c.args.self.now c.in-Some-Member-default.index c.args.path.now c.in-Some-Member-default.rest.now (record { layers = c.args.layers.now; base = c.args.base })
    c.members_of-members.result.now c.args.before (search rules) c.members_of-members.ensures (sym c.at.ensures ∙ ap option_copied c.in-None-at.is)
