use Rattle.std.proofs.Common.{arith, ◌≡◌, ap, sym, ◌∙◌, slice_get, Some}
use Rattle.std.specs.Option.{option_copied}
use Rattle.c_parse_left_out.proofs.AroundLemmas.{closing_at, found_at, opening_at, other_at}
use Rattle.c_parse_left_out.proofs.around.innermost.Goals as goal
use Rattle.c_parse_left_out.proofs.around.innermost.Goals.{then-is_closing, else-is_closing+then-is_opening+else-closed-eq0, else-is_closing+else-is_opening}

pub returns-then-closed-eq0-clause-value : goal.returns-then-closed-eq0-clause-value
returns-then-closed-eq0-clause-value c =
    let here : slice_get c.args.before.now c.loop-at.at ≡ Some c.in-Some.token.now = sym c.get.ensures ∙ ap option_copied c.in-Some.is in
    c.from-then-closed-eq0.ensures ∙ found_at c.loop-at.at c.loop-at.closed c.args.before.now c.in-Some.token.now here c.loop-at.invariant.0 (sym c.is_closing.ensures ∙ c.if-is_closing.false) (sym c.is_opening.ensures ∙ c.if-is_opening.true) c.if-closed-eq0.true

pub loop-at-preserved : goal.loop-at-preserved
loop-at-preserved c =
    let here : slice_get c.args.before.now c.loop-at.at ≡ Some c.in-Some.token.now = sym c.get.ensures ∙ ap option_copied c.in-Some.is in
    let few = c.loop-at.invariant.1 in
    elim c.if-is_closing.branch [
      | then-is_closing w ↦
          let is = w.closed-is in
          (closing_at c.loop-at.at c.loop-at.closed c.args.before.now c.in-Some.token.now here c.loop-at.invariant.0 (sym c.is_closing.ensures ∙ w.if-is_closing.true) is, omega (arith, is, few))
      | else-is_closing+then-is_opening+else-closed-eq0 w ↦
          let is = w.closed-is in
          (opening_at c.loop-at.at c.loop-at.closed c.args.before.now c.in-Some.token.now here c.loop-at.invariant.0 (sym c.is_closing.ensures ∙ w.if-is_closing.false) (sym w.is_opening.ensures ∙ w.if-is_opening.true) w.if-closed-eq0.false is, omega (arith, is, few))
      | else-is_closing+else-is_opening w ↦
          let is = w.closed-is in
          (other_at c.loop-at.at c.loop-at.closed c.args.before.now c.in-Some.token.now here c.loop-at.invariant.0 (sym c.is_closing.ensures ∙ w.if-is_closing.false) (sym w.is_opening.ensures ∙ w.if-is_opening.false) is, omega (arith, is, few))
    ]
