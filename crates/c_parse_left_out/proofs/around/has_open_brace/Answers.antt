use Rattle.std.proofs.Common.{arith, ◌≡◌, ◌<◌, ◌-◌, length, ap, sym, ◌∙◌, slice_get, Some}
use Rattle.std.specs.Option.{option_copied}
use Rattle.c_parse_left_out.proofs.AroundLemmas.{braces_nearer}
use Rattle.c_parse_left_out.proofs.around.has_open_brace.Goals as goal

pub loop-turn-preserved : goal.loop-turn-preserved
loop-turn-preserved c =
    let here : slice_get c.args.before.now (length c.args.before.now - 1 - c.loop-turn.turn) ≡ Some c.in-Some.token.now = sym c.far.ensures ∙ ap option_copied c.in-Some.is in
    let few = c.loop-turn.invariant.1 in
    let one = c.braces_behind-braces.ensures.few in
    let below : c.loop-turn.turn < length c.args.before.now = omega (arith, c.loop-turn-test.true, c.len-turn-end.ensures) in
    (c.braces_behind-braces.ensures.value ∙ braces_nearer c.loop-turn.turn c.loop-turn.braces c.args.before.now c.in-Some.token.now below here c.loop-turn.invariant.0, omega (arith, few, one))
