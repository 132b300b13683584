use Rattle.std.proofs.Common.{◌<◌, subst, sym, ◌∙◌}
use Rattle.graph_text.proofs.LineLemmas.{member_turn, other_turn}
use Rattle.graph_text.proofs.vertices.append_members.Goals.{then-has+in_ok-append_vertex, else-has}
use Rattle.graph_text.proofs.vertices.append_members.Goals as goal

pub loop-number-preserved : goal.loop-number-preserved
loop-number-preserved c =
    let n = c.loop-number.number in
    let within = subst (λ k. n < k) c.len-number-end.ensures c.loop-number-test.true in
    elim c.if-has.branch [
      | then-has+in_ok-append_vertex w ↦
          member_turn c.args.p.now c.args.rows.now c.args.l.now c.args.set.now c.args.vertices.now n _ c.loop-number.text c.if-has.text _ within (subst (λ k. n < k) c.requires.size within) (sym c.has.ensures ∙ w.if-has.true) (w.text-is ∙ w.in_ok-append_vertex.ensures) c.loop-number.invariant
      | else-has w ↦
          other_turn c.args.p.now c.args.rows.now c.args.l.now c.args.set.now c.args.vertices.now n c.loop-number.text c.if-has.text _ within (subst (λ k. n < k) c.requires.size within) (sym c.has.ensures ∙ w.if-has.false) w.text-is c.loop-number.invariant
    ]
