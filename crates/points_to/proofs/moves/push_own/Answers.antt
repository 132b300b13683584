use Rattle.std.proofs.Common.{map, sym, ap, ◌∙◌}
use Rattle.std.proofs.lemmas.List.{map-append}
use Rattle.effect_rows.specs.Own.{own_doing}
use Rattle.points_to.specs.Moves.{told}
use Rattle.points_to.proofs.MoveLemmas.{told_pushed, told_left}
use Rattle.points_to.proofs.moves.push_own.Goals as goal

pub returns-in_ok-push : goal.returns-in_ok-push
returns-in_ok-push c =
    told_pushed c.args.effects.now c.args.f (own_doing c.args.statement.now) (map told c.args.moves.now.items) _ (sym c.stores_pointer.ensures ∙ c.if-stores_pointer.true)
    (ap (map told) c.in_ok-push.ensures.items ∙ map-append told c.args.moves.now.items _)

pub returns-else-stores_pointer : goal.returns-else-stores_pointer
returns-else-stores_pointer c = told_left c.args.effects.now c.args.f (own_doing c.args.statement.now) (map told c.args.moves.now.items) (sym c.stores_pointer.ensures ∙ c.if-stores_pointer.false)
