use Rattle.std.proofs.Common.{◌<◌, ◌++◌, false, length, get_or, arith, sym, ap, ◌∙◌, ap₂}
use Rattle.std.proofs.lemmas.List.{get_or_default}
use Rattle.dep_model.specs.Groups.{row}
use Rattle.dep_model.specs.SwitchArms.{taken}
use Rattle.control_deps.specs.Walk.{joined, walk, walks, walked_part, arm_walks}
use Rattle.c_language.proofs.Turns.{each_turn}
use Rattle.dep_model.proofs.Grown.{grown_two, grown_three, grown_four, both_turn}
use Rattle.control_deps.proofs.WalkLemmas.{each_statement, each_arm, walk-If, walk-While, walk-Do, walk-Switch, walk-Block, walk-For}
use Rattle.control_deps.proofs.walk.+statement.Goals as goal

pub statements-loop-child-preserved : goal.statements-loop-child-preserved
statements-loop-child-preserved t c =
    each_turn (each_statement (row c.args.own.now) c.args.controllers.now) c.args.list.now c.loop-child.child-index c.child-item.result c.args.out.now.items c.loop-child.out.items c.statement.new.out.items
    c.loop-child-test.true c.child-item.is c.loop-child.invariant c.in_ok-statement.ensures

pub arms-loop-i-preserved : goal.arms-loop-i-preserved
arms-loop-i-preserved t c =
    let lt : c.loop-i.i < length c.args.taken.now = omega (arith, c.requires.for_each, c.loop-i-test.true) in
    both_turn (each_arm (row c.args.own.now) c.args.controllers.now) c.args.taken.now c.args.list.now c.loop-i.i (get_or c.args.taken.now c.loop-i.i false) c.index-list-i.result c.args.out.now.items c.loop-i.out.items c.arm.new.out.items
    c.requires.for_each c.loop-i-test.true (sym (get_or_default c.args.taken.now c.loop-i.i _ false lt)) c.index-list-i.is c.loop-i.invariant c.in_ok-arm.ensures

pub statement-returns-in_ok-statements-in-Block : goal.statement-returns-in_ok-statements-in-Block
statement-returns-in_ok-statements-in-Block t c =
    let own = row c.args.own.now in
    let ks = c.args.controllers.now in
    c.in_ok-statements-in-Block.ensures ∙ ap (λ b. c.args.out.now.items ++ walks own b ks) c.as_slice.ensures ∙ ap (λ es. c.args.out.now.items ++ es) (sym (ap (λ x. walk own x ks) c.in-Block.is ∙ walk-Block own c.in-Block.line c.in-Block.body ks))

pub statement-returns-in_ok-statements-in-If-2 : goal.statement-returns-in_ok-statements-in-If-2
statement-returns-in_ok-statements-in-If-2 t c =
    let own = row c.args.own.now in
    let ks = c.args.controllers.now in
    grown_three c.args.out.now.items c.join-in-If.new.out.items c.statements-in-If.new.out.items c.statements-in-If-2.new.out.items (joined ks (own c.in-If.id)) (walks own c.in-If.then (own c.in-If.id)) (walks own c.in-If.other (own c.in-If.id)) (walk own c.args.statement.now ks)
    (c.in_ok-join-in-If.ensures ∙ ap (λ k. c.args.out.now.items ++ joined ks k) c.row-test.ensures)
    (c.in_ok-statements-in-If.ensures ∙ ap₂ (λ b k. c.join-in-If.new.out.items ++ walks own b k) c.as_slice-in-If.ensures c.row-test.ensures)
    (c.in_ok-statements-in-If-2.ensures ∙ ap₂ (λ b k. c.statements-in-If.new.out.items ++ walks own b k) c.as_slice-in-If-2.ensures c.row-test.ensures)
    (ap (λ x. walk own x ks) c.in-If.is ∙ walk-If own c.in-If.id c.in-If.line c.in-If.test c.in-If.then c.in-If.other ks)

pub statement-returns-in_ok-arms-in-Switch : goal.statement-returns-in_ok-arms-in-Switch
statement-returns-in_ok-arms-in-Switch t c =
    let own = row c.args.own.now in
    let ks = c.args.controllers.now in
    let flags = c.as_slice-in-Switch-3.ensures.value ∙ (c.in_ok-taken-in-Switch.ensures.taken ∙ ap taken c.as_slice-in-Switch.ensures) in
    grown_two c.args.out.now.items c.join-in-Switch.new.out.items c.arms.new.out.items (joined ks (own c.in-Switch.id)) (arm_walks own (taken c.in-Switch.list) c.in-Switch.list (own c.in-Switch.id)) (walk own c.args.statement.now ks)
    (c.in_ok-join-in-Switch.ensures ∙ ap (λ k. c.args.out.now.items ++ joined ks k) c.row-test-in-Switch.ensures)
    (c.in_ok-arms-in-Switch.ensures ∙ (ap (λ bs. c.join-in-Switch.new.out.items ++ arm_walks own bs c.as_slice-in-Switch-2.result.now c.row-test-in-Switch.result.now) flags ∙ ap₂ (λ as_ k. c.join-in-Switch.new.out.items ++ arm_walks own (taken c.in-Switch.list) as_ k) c.as_slice-in-Switch-2.ensures c.row-test-in-Switch.ensures))
    (ap (λ x. walk own x ks) c.in-Switch.is ∙ walk-Switch own c.in-Switch.id c.in-Switch.line c.in-Switch.test c.in-Switch.list ks)

pub statement-returns-in_ok-statements-in-While : goal.statement-returns-in_ok-statements-in-While
statement-returns-in_ok-statements-in-While t c =
    let own = row c.args.own.now in
    let ks = c.args.controllers.now in
    grown_two c.args.out.now.items c.join_loop.new.out.items c.statements-in-While.new.out.items (joined (ks ++ own c.in-While.id) (own c.in-While.id)) (walks own c.in-While.body (own c.in-While.id)) (walk own c.args.statement.now ks)
    (c.in_ok-join_loop-in-While.ensures.edges ∙ ap (λ k. c.args.out.now.items ++ joined (ks ++ k) k) c.row-test-in-While.ensures)
    (c.in_ok-statements-in-While.ensures ∙ ap₂ (λ b k. c.join_loop.new.out.items ++ walks own b k) c.as_slice-in-While.ensures c.row-test-in-While.ensures)
    (ap (λ x. walk own x ks) c.in-While.is ∙ walk-While own c.in-While.id c.in-While.line c.in-While.test c.in-While.body ks)

pub statement-returns-in_ok-statements-in-Do : goal.statement-returns-in_ok-statements-in-Do
statement-returns-in_ok-statements-in-Do t c =
    let own = row c.args.own.now in
    let ks = c.args.controllers.now in
    grown_two c.args.out.now.items c.join_loop-in-Do.new.out.items c.statements-in-Do.new.out.items (joined (ks ++ own c.in-Do.id) (own c.in-Do.id)) (walks own c.in-Do.body (ks ++ own c.in-Do.id)) (walk own c.args.statement.now ks)
    (c.in_ok-all-in-Do.ensures.edges ∙ ap (λ k. c.args.out.now.items ++ joined (ks ++ k) k) c.row-in-Do.ensures)
    (c.in_ok-statements-in-Do.ensures ∙ ap₂ (λ b k. c.join_loop-in-Do.new.out.items ++ walks own b k) c.as_slice-in-Do.ensures (c.as_slice-in-Do-2.ensures.value ∙ (c.in_ok-all-in-Do.ensures.controllers ∙ ap (λ k. ks ++ k) c.row-in-Do.ensures)))
    (ap (λ x. walk own x ks) c.in-Do.is ∙ walk-Do own c.in-Do.id c.in-Do.line c.in-Do.test c.in-Do.body ks)

pub statement-returns-in_ok-statements-in-For : goal.statement-returns-in_ok-statements-in-For
statement-returns-in_ok-statements-in-For t c =
    let own = row c.args.own.now in
    let ks = c.args.controllers.now in
    grown_four c.args.out.now.items c.join_loop-in-For.new.out.items c.part.new.out.items c.part-in-For.new.out.items c.statements-in-For.new.out.items (joined (ks ++ own c.in-For.id) (own c.in-For.id)) (walked_part own c.in-For.init ks) (walked_part own c.in-For.step (own c.in-For.id)) (walks own c.in-For.body (own c.in-For.id)) (walk own c.args.statement.now ks)
    (c.in_ok-join_loop-in-For.ensures.edges ∙ ap (λ k. c.args.out.now.items ++ joined (ks ++ k) k) c.row-test-in-For.ensures)
    c.in_ok-part-in-For.ensures
    (c.in_ok-part-in-For-2.ensures ∙ ap (λ k. c.part.new.out.items ++ walked_part own c.in-For.step k) c.row-test-in-For.ensures)
    (c.in_ok-statements-in-For.ensures ∙ ap₂ (λ b k. c.part-in-For.new.out.items ++ walks own b k) c.as_slice-in-For.ensures c.row-test-in-For.ensures)
    (ap (λ x. walk own x ks) c.in-For.is ∙ walk-For own c.in-For.id c.in-For.line c.in-For.init c.in-For.test c.in-For.step c.in-For.body ks)
