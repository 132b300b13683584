use Rattle.std.proofs.Common.{arith, ◌≡◌, ap, sym, ◌∙◌, slice_get, Some}
use Rattle.std.specs.Option.{option_copied}
use Rattle.c_parse_left_out.proofs.AroundLemmas.{opened_out, found_out, closed_out, other_out}
use Rattle.c_parse_left_out.proofs.around.outside.Goals as goal
use Rattle.c_parse_left_out.proofs.around.outside.Goals.{then-is_opening, else-is_opening+then-is_closing+else-opened-eq0, else-is_opening+else-is_closing}

pub returns-then-opened-eq0 : goal.returns-then-opened-eq0
returns-then-opened-eq0 c =
    let here : slice_get c.args.behind.now c.loop-at.at ≡ Some c.in-Some.token.now = sym c.get.ensures ∙ ap option_copied c.in-Some.is in
    c.from-then-opened-eq0.ensures ∙ found_out c.loop-at.at c.loop-at.opened c.args.behind.now c.in-Some.token.now here c.loop-at.invariant.0 (sym c.is_opening.ensures ∙ c.if-is_opening.false) (sym c.is_closing.ensures ∙ c.if-is_closing.true) c.if-opened-eq0.true

pub loop-at-preserved : goal.loop-at-preserved
loop-at-preserved c =
    let here : slice_get c.args.behind.now c.loop-at.at ≡ Some c.in-Some.token.now = sym c.get.ensures ∙ ap option_copied c.in-Some.is in
    let few = c.loop-at.invariant.1 in
    elim c.if-is_opening.branch [
      | then-is_opening w ↦
          let is = w.opened-is in
          (opened_out c.loop-at.at c.loop-at.opened c.args.behind.now c.in-Some.token.now here c.loop-at.invariant.0 (sym c.is_opening.ensures ∙ w.if-is_opening.true) is, omega (arith, is, few))
      | else-is_opening+then-is_closing+else-opened-eq0 w ↦
          let is = w.opened-is in
          (closed_out c.loop-at.at c.loop-at.opened c.args.behind.now c.in-Some.token.now here c.loop-at.invariant.0 (sym c.is_opening.ensures ∙ w.if-is_opening.false) (sym w.is_closing.ensures ∙ w.if-is_closing.true) w.if-opened-eq0.false is, omega (arith, is, few))
      | else-is_opening+else-is_closing w ↦
          let is = w.opened-is in
          (other_out c.loop-at.at c.loop-at.opened c.args.behind.now c.in-Some.token.now here c.loop-at.invariant.0 (sym c.is_opening.ensures ∙ w.if-is_opening.false) (sym w.is_closing.ensures ∙ w.if-is_closing.false) is, omega (arith, is, few))
    ]
