use Rattle.reaching_defs.proofs.HeldLemmas.{taken_adds, taken_skips}
use Rattle.reaching_defs.proofs.definition.Definition.take.Goals as goal
use Rattle.reaching_defs.proofs.definition.Definition.take.Goals.{then-word-ne0+in_ok-push+in_ok-push-2, else-word-ne0}

pub loop-at-preserved : goal.loop-at-preserved
loop-at-preserved c =
    let row = c.args.row.now in
    let at = c.loop-at.at in
    let self = c.loop-at.self in
    let i = c.loop-at.invariant in
    elim c.if-word-ne0.branch [
      | then-word-ne0+in_ok-push+in_ok-push-2 w ↦ rw (w.self-is, w.in_ok-push.ensures.items, w.in_ok-push-2.ensures.items) (record {
        vertex = i.vertex;
        taken = taken_adds row at self.held.items self.words.items i.taken c.loop-at-test.true;
      })
      | else-word-ne0 w ↦ rw w.self-is (record {
        vertex = i.vertex;
        taken = taken_skips row at self.held.items self.words.items i.taken w.if-word-ne0.false;
      })
    ]
