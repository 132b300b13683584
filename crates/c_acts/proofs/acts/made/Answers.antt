use Rattle.std.proofs.Common.{refl, ap, ◌∙◌}
use Rattle.std.specs.Option.{option_copied}
use Rattle.c_tree.specs.declared.statement.Statement.{out-Statement}
use Rattle.c_tree.proofs.LayerLemmas.{out-Assign, out-Heap}
use Rattle.c_memory.specs.Scenes.{state_in}
use Rattle.c_acts.proofs.ActLemmas.{made_as, by_form, set_typed, allocated_typed}
use Rattle.c_acts.proofs.acts.made.Goals as goal

pub returns-in-Assign : goal.returns-in-Assign
returns-in-Assign c =
    let p = c.args.s.program.now in
    let r = option_copied c.args.returns in
    let v = c.in-Assign in
    made_as c.assigned.result _ _
    (by_form p r c.args.statement.now _ c.args.unread.now (state_in c.args.s) _ _ (ap out-Statement v.is ∙ out-Assign v.id v.line v.left v.op v.right) refl (set_typed p r v.left v.op v.right (state_in c.args.s)))
    c.assigned.ensures

pub returns-in-Heap : goal.returns-in-Heap
returns-in-Heap c =
    let p = c.args.s.program.now in
    let r = option_copied c.args.returns in
    let v = c.in-Heap in
    made_as c.allocated.result _ _
    (by_form p r c.args.statement.now _ c.args.unread.now (state_in c.args.s) _ _ (ap out-Statement v.is ∙ out-Heap v.id v.line v.target v.cast v.amount) refl (allocated_typed p r v.target v.amount (state_in c.args.s)))
    c.allocated.ensures
