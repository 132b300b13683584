use Rattle.std.proofs.Common.{[], ◌∷◌, ◌++◌, take, sym, subst, ◌∙◌}
use Rattle.std.proofs.lemmas.List.{take_more}
use Rattle.c_types_base.specs.Definitions.{Defines}
use Rattle.c_types_base.proofs.definitions.Definitions.of_items.Goals as goal

pub loop-item-preserved : goal.loop-item-preserved
loop-item-preserved c =
    let whole = c.in_ok-add.ensures.adds (take c.loop-item.item-index c.args.items.now) c.loop-item.invariant.0 in
    (subst (λ items. Defines items c.add.new.self) (sym (take_more c.args.items.now c.loop-item.item-index c.item-item.result c.loop-item-test.true)) (subst (λ x. Defines (take c.loop-item.item-index c.args.items.now ++ x ∷ []) c.add.new.self) c.item-item.is whole), c.in_ok-add.ensures.text ∙ c.loop-item.invariant.1)
