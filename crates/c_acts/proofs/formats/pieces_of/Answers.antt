use Rattle.std.proofs.Common.{◌+◌, drop, get_or, sym, ap, ◌∙◌}
use Rattle.std.proofs.lemmas.List.{drop_more}
use Rattle.c_acts.specs.declared.formats.Step.{Step}
use Rattle.c_acts.specs.Formats.{behind_of, after_step}
use Rattle.c_acts.proofs.FormatLemmas.{byte_passes, byte_gives, byte_fails}
use Rattle.c_acts.proofs.formats.pieces_of.Goals as goal
use Rattle.c_acts.proofs.formats.pieces_of.Goals.{in-Passes, in-Gives+in_ok-push-in-Gives}

pub returns-in-Fails : goal.returns-in-Fails
returns-in-Fails c =
    let i = c.loop-byte.byte-index in
    let format = c.args.format.now in
    byte_fails format i (get_or format i 0) (drop_more format i 0 c.loop-byte-test.true) c.loop-byte.pieces.items (behind_of c.loop-byte.behind) _ c.loop-byte.invariant
    (ap (λ (s : Step). after_step s (drop (i + 1) format)) (sym c.in-Fails.is) ∙ c.step_of.ensures (drop (i + 1) format))

pub loop-byte-preserved : goal.loop-byte-preserved
loop-byte-preserved c =
    let i = c.loop-byte.byte-index in
    let format = c.args.format.now in
    let split = drop_more format i 0 c.loop-byte-test.true in
    elim c.match-step_of.branch [
      | in-Passes w ↦
          rw (w.pieces-is, w.behind-is)
          (byte_passes format i (get_or format i 0) split c.loop-byte.pieces.items (behind_of c.loop-byte.behind) _ c.loop-byte.invariant (behind_of w.in-Passes.next)
          (ap (λ (s : Step). after_step s (drop (i + 1) format)) (sym w.in-Passes.is) ∙ c.step_of.ensures (drop (i + 1) format)))
      | in-Gives+in_ok-push-in-Gives w ↦
          rw (w.pieces-is, w.behind-is, w.in_ok-push-in-Gives.ensures.items)
          (byte_gives format i (get_or format i 0) split c.loop-byte.pieces.items (behind_of c.loop-byte.behind) _ c.loop-byte.invariant w.in-Gives.piece
          (ap (λ (s : Step). after_step s (drop (i + 1) format)) (sym w.in-Gives.is) ∙ c.step_of.ensures (drop (i + 1) format)))
    ]
