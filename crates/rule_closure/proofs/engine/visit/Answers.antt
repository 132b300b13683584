use Rattle.std.proofs.Common.{◌-◌, ◌<◌, ◌∙◌, sym, length, false, true, get_or, arith}
use Rattle.std.proofs.lemmas.List.{get_or_default, get_or-set_same}
use Rattle.std.proofs.lemmas.Bool.{false≢true}
use Rattle.rule_closure.specs.declared.engine.Link.{Link}
use Rattle.rule_closure.proofs.SetLemmas.{count_room}
use Rattle.rule_closure.proofs.Marking.{moved, added}
use Rattle.rule_closure.proofs.engine.visit.Goals as goal
use Rattle.rule_closure.proofs.engine.visit.Goals.{then-has+then-not-has, else-has, else-has-via-then-has+else-not-has, else-has-via-else-has}

pub bounds-order-filled : goal.bounds-order-filled
bounds-order-filled c =
    let i = c.loop-cursor.invariant in
    let none = sym c.has-then-has.ensures ∙ c.if-not-has.true in
    let d : Link = record { to = 0; beside = 0; gives = 0 } in
    let links = c.args.links.now in
    let cursor = c.loop-cursor.cursor in
    let link = get_or links (cursor - 1) d in
    let low : 0 < cursor = c.loop-cursor-test.true in
    let at = get_or_default links (cursor - 1) link d (omega (arith, i.within)) in
    let ends = c.requires.indexed.in_range (cursor - 1) link (omega (arith, i.within)) at in
    omega (arith, i.listed.count, i.size, c.requires.size, c.requires.room, c.loop-cursor.auto.order, count_room c.loop-cursor.set link.gives (omega (arith, ends.gives_in, i.size, c.requires.size)) none)

pub loop-cursor-preserved : goal.loop-cursor-preserved
loop-cursor-preserved c =
    let i = c.loop-cursor.invariant in
    let d : Link = record { to = 0; beside = 0; gives = 0 } in
    let links = c.args.links.now in
    let cursor = c.loop-cursor.cursor in
    let set = c.loop-cursor.set in
    let link = get_or links (cursor - 1) d in
    let low : 0 < cursor = c.loop-cursor-test.true in
    let at = get_or_default links (cursor - 1) link d (omega (arith, i.within)) in
    let ends = c.requires.indexed.in_range (cursor - 1) link (omega (arith, i.within)) at in
    let last = c.requires.indexed.nexts_are (cursor - 1) link (omega (arith, i.within)) at in
    let gives_in : link.gives < length set = omega (arith, ends.gives_in, i.size, c.requires.size) in
    elim c.if-has.branch [
      | then-has+then-not-has w ↦
          let f = sym c.has.ensures ∙ w.if-has.true in
          let none = sym w.has-then-has.ensures ∙ w.if-not-has.true in
          let room : c.loop-cursor.filled < length c.loop-cursor.order = omega (arith, i.listed.count, i.size, c.requires.size, c.requires.room, c.loop-cursor.auto.order, count_room set link.gives gives_in none) in
          rw (w.order-is, w.set-is, w.add.ensures, w.filled-is)
          (moved links c.args.v c.args.order.now c.args.filled c.args.set.now cursor _ link _ _ _
          (added links c.args.v c.args.order.now c.args.filled c.args.set.now cursor link c.loop-cursor.order c.loop-cursor.filled set i low at f gives_in none room)
          low at last (λ _. get_or-set_same set link.gives true false gives_in))
      | else-has w ↦
          rw (w.order-is, w.set-is, w.filled-is)
          (moved links c.args.v c.args.order.now c.args.filled c.args.set.now cursor _ link _ _ _ i low at last
          (λ f. elim w.else-has.branch [
            | else-has-via-then-has+else-not-has v ↦ sym v.has-then-has.ensures ∙ v.if-not-has.false
            | else-has-via-else-has v ↦ absurd (false≢true (sym v.if-has.false ∙ c.has.ensures ∙ f))
          ]))
    ]
