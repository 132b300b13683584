use Rattle.std.proofs.Common.{sym, ap, subst, ◌∙◌}
use Rattle.std.specs.Prelude.{OnOk}
use Rattle.c_tree.specs.declared.raw.program.RawItem.TheVariants as item_of
use Rattle.c_types_base.specs.Stretches.{of_item}
use Rattle.c_types_program.specs.Items.{PassesStretch}
use Rattle.c_types_program.proofs.ItemForms.{item_passes, item_adds, adds_function}
use Rattle.c_types_program.proofs.walk.Walk.item.Goals as goal

-- `#include`

-- `struct s;`

-- a struct type

-- a declaration at file scope

pub returns-in-Global-clause-passes : goal.returns-in-Global-clause-passes
returns-in-Global-clause-passes c =
    subst (λ y. OnOk c.global.result (PassesStretch (of_item y) c.args.self.now c.global.new.self)) (sym c.in-Global.is) c.global.ensures.passes

-- a prototype

-- the definition of a function

pub returns-in_ok-push-in-Define-clause-function : goal.returns-in_ok-push-in-Define-clause-function
returns-in_ok-push-in-Define-clause-function c =
    item_adds c.args.self.now c.args.item.now (item_of.Define c.in-Define.line c.in-Define.head c.as_slice-in-Define.result.now)
    (c.in-Define.is ∙ ap (item_of.Define c.in-Define.line c.in-Define.head) (sym c.as_slice-in-Define.ensures)) c.args.functions.now c.push.new.self
    (adds_function c.args.self.now c.in-Define.line c.in-Define.head c.as_slice-in-Define.result.now c.in_ok-made-in-Define.made c.args.functions.now c.push.new.self
    c.in_ok-made-in-Define.ensures.tree c.in_ok-push-in-Define.ensures.ok)

pub returns-in_ok-push-in-Define-clause-passes : goal.returns-in_ok-push-in-Define-clause-passes
returns-in_ok-push-in-Define-clause-passes c =
    item_passes c.args.self.now c.args.item.now (item_of.Define c.in-Define.line c.in-Define.head c.as_slice-in-Define.result.now)
    (c.in-Define.is ∙ ap (item_of.Define c.in-Define.line c.in-Define.head) (sym c.as_slice-in-Define.ensures)) c.definition.new.self c.in_ok-made-in-Define.ensures.passes
