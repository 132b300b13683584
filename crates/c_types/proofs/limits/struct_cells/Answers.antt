use Rattle.std.proofs.Common.{rules, [], take, ap, ◌∙◌}
use Rattle.c_language.specs.Limits.{member_cells, cells_behind}
use Rattle.c_types.specs.Limits.{capped}
use Rattle.c_types.proofs.LimitLemmas.{struct_turn}
use Rattle.c_types.proofs.limits.struct_cells.Goals as goal

pub loop-structure-preserved : goal.loop-structure-preserved
loop-structure-preserved c =
    let counts = cells_behind [] (take c.loop-structure.structure-index c.args.structs.now) in
    struct_turn c.args.structs.now c.loop-structure.structure-index c.structure-item.result c.loop-structure.found.items c.push.new.self.items c.member_cells-sum.result
    c.loop-structure-test.true c.structure-item.is c.loop-structure.invariant
    (c.member_cells-sum.ensures counts (search rules) ∙ ap (λ ms. capped (member_cells counts ms)) c.as_slice-in-loop-structure.ensures) (search rules)
