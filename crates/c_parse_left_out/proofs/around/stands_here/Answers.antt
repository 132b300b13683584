use Rattle.std.proofs.Common.{arith, ◌≡◌, ap, sym, ◌∙◌, slice_get, Some}
use Rattle.std.specs.Option.{option_copied}
use Rattle.c_parse_left_out.proofs.AroundLemmas.{stands_stopped, stands_later}
use Rattle.c_parse_left_out.proofs.around.stands_here.Goals as goal
use Rattle.c_parse_left_out.specs.Around.{found_by, ended_by}

pub returns-then-stops : goal.returns-then-stops
returns-then-stops c =
    let here : slice_get c.args.before.now c.loop-at.at ≡ Some c.in-Some.token.now = sym c.get.ensures ∙ ap option_copied c.in-Some.is in
    c.finds.ensures ∙ stands_stopped (found_by c.args.sought) (ended_by c.args.sought) c.loop-at.at c.loop-at.closed c.args.before.now c.in-Some.token.now here c.loop-at.invariant.0 (sym c.stops.ensures ∙ c.if-stops.true)

pub loop-at-preserved : goal.loop-at-preserved
loop-at-preserved c =
    let here : slice_get c.args.before.now c.loop-at.at ≡ Some c.in-Some.token.now = sym c.get.ensures ∙ ap option_copied c.in-Some.is in
    let few = c.loop-at.invariant.1 in
    let one = c.closed_behind-closed.ensures.few in
    (stands_later (found_by c.args.sought) (ended_by c.args.sought) c.loop-at.at c.loop-at.closed c.args.before.now c.in-Some.token.now here c.loop-at.invariant.0 (sym c.stops.ensures ∙ c.if-stops.false) c.closed_behind-closed.ensures.value, omega (arith, few, one))
