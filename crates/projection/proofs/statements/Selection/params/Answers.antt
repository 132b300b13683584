use Rattle.std.proofs.Common.{◌≡◌, ◌+◌, ◌<◌, ◌++◌, map, length, get_or, drop, sym, ◌∙◌, subst}
use Rattle.std.proofs.lemmas.List.{get_or_default}
use Rattle.bit_rows.specs.Sets.{has}
use Rattle.kept_numbers.specs.Ranks.{rank}
use Rattle.projection.specs.Kept.{chosen}
use Rattle.projection.proofs.ChosenLemmas.{chosen_turn, chosen_skip}
use Rattle.projection.proofs.statements.Selection.params.Goals as goal
use Rattle.projection.proofs.statements.Selection.params.Goals.{then-is_at+in_ok-push, else-is_at}

pub loop-place-preserved : goal.loop-place-preserved
loop-place-preserved c =
    let kept = has c.row-kept.result.now in
    let f = rank (has c.args.self.now.variables) in
    let xs = c.args.list.now in
    let n = c.loop-place.place in
    let lt : n < length xs = c.loop-place-test.true in
    let x = get_or xs n 0 in
    let at : x ≡ get_or xs n x = get_or_default xs n 0 x lt in
    let whole = map f (chosen kept 0 xs) in
    elim c.if-is_at.branch [
      | then-is_at+in_ok-push w ↦
          subst (λ z. z ++ map f (chosen kept (n + 1) (drop (n + 1) xs)) ≡ whole) (sym w.all-is)
          (chosen_turn kept f n xs x c.loop-place.all _ whole w.rank.result lt at (sym c.is_at.ensures ∙ w.if-is_at.true) w.rank.ensures w.in_ok-push.ensures.ok c.loop-place.invariant)
      | else-is_at w ↦
          subst (λ z. z ++ map f (chosen kept (n + 1) (drop (n + 1) xs)) ≡ whole) (sym w.all-is)
          (chosen_skip kept f n xs x c.loop-place.all whole lt at (sym c.is_at.ensures ∙ w.if-is_at.false) c.loop-place.invariant)
    ]
