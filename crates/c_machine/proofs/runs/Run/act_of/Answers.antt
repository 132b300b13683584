use Rattle.std.proofs.Common.{List, [], map, refl, sym, ap, ap₂, ◌∙◌}
use Rattle.c_tree.specs.declared.expr.Expr.{Expr}
use Rattle.c_tree.specs.declared.statement.Arm.{Arm}
use Rattle.c_tree.specs.declared.statement.Statement.{Statement}
use Rattle.c_language.specs.Code.{Fork, Call, is_true, either, taken_arm}
use Rattle.c_machine.specs.Rests.{arm_part, block_in, block_before, list_before, left_code, turn_of}
use Rattle.c_machine.proofs.FormLemmas.{if_code, switch_code, while_code, do_code, for_code, turn_alone, turn_stepped, call_code, declare_plain, assign_plain, bump_plain, fetch_plain, write_plain, print_plain, heap_plain, release_plain, return_plain}
use Rattle.c_machine.proofs.runs.Run.act_of.Goals as goal

pub returns-in-If : goal.returns-in-If
returns-in-If c =
    λ p before x h e.
    c.fork.ensures p before x h
    (e
    ∙ if_code c.args.statement.now c.args.id c.in-If.id c.in-If.line c.in-If.test c.in-If.then c.in-If.other (left_code c.args.self.now.left.items) c.in-If.is c.requires
    ∙ ap₂ (λ (a b : List Statement). Fork c.args.id c.in-If.test (λ v. either (is_true v) (block_in a) (block_in b)) (left_code c.args.self.now.left.items)) (sym c.as_slice.ensures) (sym c.as_slice-in-If.ensures))

pub returns-in-Switch : goal.returns-in-Switch
returns-in-Switch c =
    λ p before x h e.
    c.switch.ensures p before x h
    (e
    ∙ switch_code c.args.statement.now c.args.id c.in-Switch.id c.in-Switch.line c.in-Switch.test c.in-Switch.arms (left_code c.args.self.now.left.items) c.in-Switch.is c.requires
    ∙ ap (λ (arms : List Arm). Fork c.args.id c.in-Switch.test (taken_arm (map arm_part arms)) (left_code c.args.self.now.left.items)) (sym c.as_slice-in-Switch.ensures))

pub returns-in-While : goal.returns-in-While
returns-in-While c =
    λ p before x h e.
    let at_ = e ∙ while_code c.args.statement.now c.args.id c.in-While.id c.in-While.line c.in-While.test c.in-While.body (left_code c.args.self.now.left.items) c.in-While.is c.requires in
    c.turn.ensures p before x (block_in c.in-While.body) h at_ (sym e)
    (λ k. turn_alone c.in-While.body [] k refl ∙ ap (λ (b : List Statement). block_before b k) (sym c.as_slice-in-While.ensures))

pub returns-in-Do : goal.returns-in-Do
returns-in-Do c =
    λ p before x h e.
    let at_ = e ∙ do_code c.args.statement.now c.args.id c.in-Do.id c.in-Do.line c.in-Do.test c.in-Do.body (left_code c.args.self.now.left.items) c.in-Do.is c.requires in
    c.turn-in-Do.ensures p before x (block_in c.in-Do.body) h at_ (sym e)
    (λ k. turn_alone c.in-Do.body [] k refl ∙ ap (λ (b : List Statement). block_before b k) (sym c.as_slice-in-Do.ensures))

pub returns-in-For : goal.returns-in-For
returns-in-For c =
    λ p before x h e.
    let v = c.in-For in
    let at_ = e ∙ for_code c.args.statement.now c.args.id v.id v.line v.test v.init v.step v.body (left_code c.args.self.now.left.items) v.is c.requires in
    c.turn-in-For.ensures p before x (turn_of v.body v.step) h at_ (sym e)
    (λ k. turn_stepped v.body c.as_list.result.now v.step k c.as_list.ensures ∙ ap (λ (b : List Statement). block_before b (list_before c.as_list.result.now k)) (sym c.as_slice-in-For.ensures))

pub returns-in-Invoke : goal.returns-in-Invoke
returns-in-Invoke c =
    λ p before x h e.
    let v = c.in-Invoke in
    c.call.ensures p before x h
    (e
    ∙ call_code c.args.statement.now c.args.id v.id v.line v.target v.function v.args (left_code c.args.self.now.left.items) v.is c.requires
    ∙ ap (λ (args : List Expr). Call c.args.id v.target v.function args (left_code c.args.self.now.left.items)) (sym c.as_slice-in-Invoke.ensures))

pub returns-in-Declare : goal.returns-in-Declare
returns-in-Declare c =
    λ p before x h e.
    let f = declare_plain c.args.statement.now c.args.id _ _ _ _ c.in-Declare.is c.requires in
    c.plain.ensures p before x _ h f.act (e ∙ f.code (left_code c.args.self.now.left.items))

pub returns-in-Assign : goal.returns-in-Assign
returns-in-Assign c =
    λ p before x h e.
    let f = assign_plain c.args.statement.now c.args.id _ _ _ _ _ c.in-Assign.is c.requires in
    c.plain-in-Assign.ensures p before x _ h f.act (e ∙ f.code (left_code c.args.self.now.left.items))

pub returns-in-Bump : goal.returns-in-Bump
returns-in-Bump c =
    λ p before x h e.
    let f = bump_plain c.args.statement.now c.args.id _ _ _ _ _ c.in-Bump.is c.requires in
    c.plain-in-Bump.ensures p before x _ h f.act (e ∙ f.code (left_code c.args.self.now.left.items))

pub returns-in-Fetch : goal.returns-in-Fetch
returns-in-Fetch c =
    λ p before x h e.
    let f = fetch_plain c.args.statement.now c.args.id _ _ _ c.in-Fetch.is c.requires in
    c.plain-in-Fetch.ensures p before x _ h f.act (e ∙ f.code (left_code c.args.self.now.left.items))

pub returns-in-Write : goal.returns-in-Write
returns-in-Write c =
    λ p before x h e.
    let f = write_plain c.args.statement.now c.args.id _ _ _ c.in-Write.is c.requires in
    c.plain-in-Write.ensures p before x _ h f.act (e ∙ f.code (left_code c.args.self.now.left.items))

pub returns-in-Print : goal.returns-in-Print
returns-in-Print c =
    λ p before x h e.
    let f = print_plain c.args.statement.now c.args.id _ _ _ _ c.in-Print.is c.requires in
    c.plain-in-Print.ensures p before x _ h f.act (e ∙ f.code (left_code c.args.self.now.left.items))

pub returns-in-Heap : goal.returns-in-Heap
returns-in-Heap c =
    λ p before x h e.
    let f = heap_plain c.args.statement.now c.args.id _ _ _ _ _ c.in-Heap.is c.requires in
    c.plain-in-Heap.ensures p before x _ h f.act (e ∙ f.code (left_code c.args.self.now.left.items))

pub returns-in-Release : goal.returns-in-Release
returns-in-Release c =
    λ p before x h e.
    let f = release_plain c.args.statement.now c.args.id _ _ _ c.in-Release.is c.requires in
    c.plain-in-Release.ensures p before x _ h f.act (e ∙ f.code (left_code c.args.self.now.left.items))

pub returns-in-Return : goal.returns-in-Return
returns-in-Return c =
    λ p before x h e.
    let f = return_plain c.args.statement.now c.args.id _ _ _ c.in-Return.is c.requires in
    c.plain-in-Return.ensures p before x _ h f.act (e ∙ f.code (left_code c.args.self.now.left.items))
