use Rattle.std.proofs.Common.{[], ◌∷◌, map}
use Rattle.std.proofs.lemmas.List.{map-append}
use Rattle.c_types_checks.specs.Conversions.{conversion_of, behind_of}
use Rattle.c_types_checks.proofs.FormatLemmas.{step_fails, step_passes, step_converts}
use Rattle.c_types_checks.proofs.conversions.conversions_of.Goals as goal
use Rattle.c_types_checks.proofs.conversions.conversions_of.Goals.{in-Passes, in-Converts+in_ok-push-in-Converts}

pub returns-in-Fails : goal.returns-in-Fails
returns-in-Fails c = step_fails c.args.format.now c.loop-byte.byte-index (map conversion_of c.loop-byte.found) (behind_of c.loop-byte.behind) c.loop-byte-test.true c.loop-byte.invariant c.in-Fails.ensures

pub loop-byte-preserved : goal.loop-byte-preserved
loop-byte-preserved c = elim c.match-step_of.branch [
  | in-Passes w ↦
      rw (w.found-is, w.behind-is)
      (step_passes c.args.format.now c.loop-byte.byte-index (map conversion_of c.loop-byte.found) (behind_of c.loop-byte.behind) c.loop-byte-test.true c.loop-byte.invariant
      (behind_of w.in-Passes.next) w.in-Passes.ensures)
  | in-Converts+in_ok-push-in-Converts w ↦
      rw (w.found-is, w.behind-is, w.in_ok-push-in-Converts.ensures.ok, map-append conversion_of c.loop-byte.found (w.in-Converts.conversion ∷ []))
      (step_converts c.args.format.now c.loop-byte.byte-index (map conversion_of c.loop-byte.found) (behind_of c.loop-byte.behind) c.loop-byte-test.true c.loop-byte.invariant
      (conversion_of w.in-Converts.conversion) w.in-Converts.ensures)
]
