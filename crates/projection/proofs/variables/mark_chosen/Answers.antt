use Rattle.std.proofs.Common.{◌||◌, arith}
use Rattle.bit_rows.specs.Sets.{has}
use Rattle.projection.specs.Kept.{chosen}
use Rattle.projection.specs.KeptVertices.{is_among}
use Rattle.projection.proofs.ChosenLemmas.{among_turn}
use Rattle.projection.proofs.variables.mark_chosen.Goals as goal

pub loop-place-preserved : goal.loop-place-preserved
loop-place-preserved c = λ x.
    let lt = c.loop-place-test.true in
    among_turn (has c.args.places.now) x c.loop-place.place c.args.list.now (has c.loop-place.kept.items x) (has c.mark_place.new.kept.items x)
    (has c.args.kept.now.items x || is_among (chosen (has c.args.places.now) 0 c.args.list.now) x)
    (omega (arith, lt)) (c.in_ok-mark_place.ensures x) (c.loop-place.invariant x)
