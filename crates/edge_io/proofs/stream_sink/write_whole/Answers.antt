use Rattle.std.proofs.Common.{◌≡◌, ◌+◌, ◌-◌, ◌^◌, List, ℕ, Bor, sym, subst, arith}
use Rattle.edge_io.specs.WriteCalls.{Writes, IsCutShort}
use Rattle.edge_io.proofs.Streams.{HasWritten, begun, kept, kept_at_none, goes_on, written_front}
use Rattle.edge_io.proofs.CallLemmas.{some_left, other_kind, took_some, stopped_at_none, stopped_at_last}
use Rattle.edge_io.proofs.stream_sink.write_whole.Goals.{in-Ok, in-Err+else-not-is_interrupted}
use Rattle.edge_io.proofs.stream_sink.write_whole.Goals as goal

pub loop-call-init : goal.loop-call-init
loop-call-init g c = record { bytes = begun _ _; calls = Writes.begins }

pub returns-in-Ok-eq0-clause-cut_short : goal.returns-in-Ok-eq0-clause-cut_short
returns-in-Ok-eq0-clause-cut_short g c =
    stopped_at_none c.loop-call.invariant.calls (some_left _ _ c.is_empty.ensures c.if-is_empty.false) c.in-Ok-eq0.ensures.call c.in-Ok-eq0.field-0-test

pub returns-in-Ok-eq0-clause-front : goal.returns-in-Ok-eq0-clause-front
returns-in-Ok-eq0-clause-front g c =
    written_front _ _ _ _ (kept_at_none _ _ _ _ _ _ c.loop-call.invariant.bytes c.in-Ok-eq0.ensures.bytes c.in-Ok-eq0.field-0-test) (some_left _ _ c.is_empty.ensures c.if-is_empty.false)

pub returns-then-not-is_interrupted-clause-cut_short : goal.returns-then-not-is_interrupted-clause-cut_short
returns-then-not-is_interrupted-clause-cut_short g c =
    IsCutShort.failed c.loop-call.invariant.calls (some_left _ _ c.is_empty.ensures c.if-is_empty.false) c.in-Err.ensures.call
    (other_kind _ c.is_interrupted.ensures c.if-not-is_interrupted.true)

pub returns-then-not-is_interrupted-clause-front : goal.returns-then-not-is_interrupted-clause-front
returns-then-not-is_interrupted-clause-front g c =
    written_front _ _ _ _ (kept _ _ _ _ _ c.loop-call.invariant.bytes c.in-Err.ensures.bytes) (some_left _ _ c.is_empty.ensures c.if-is_empty.false)

pub loop-call-preserved : goal.loop-call-preserved
loop-call-preserved g c =
    let left = some_left _ _ c.is_empty.ensures c.if-is_empty.false in
    let next = c.write_once.new.self in
    let written : Bor (List ℕ) → Type 0 = λ rest. HasWritten c.args.piece.now rest.now (g.W.Write.contents c.args.stream.now) (g.W.Write.contents next) in
    let calls : Bor (List ℕ) → Type 0 = λ rest. Writes g.W.Stream.may_write c.args.piece.now c.args.stream.now (c.loop-call._call + 1) rest.now next in
    elim c.match-write_once.branch [
      | in-Ok w ↦ record {
        bytes = subst written (sym w.rest-is) (goes_on _ _ _ _ _ _ c.loop-call.invariant.bytes w.in-Ok.ensures.bytes);
        calls = subst calls (sym w.rest-is) (took_some c.loop-call.invariant.calls left w.in-Ok.ensures.call (omega arith));
      }
      | in-Err+else-not-is_interrupted w ↦ record {
        bytes = subst written (sym w.rest-is) (kept _ _ _ _ _ c.loop-call.invariant.bytes w.in-Err.ensures.bytes);
        calls = subst calls (sym w.rest-is) (Writes.interrupted c.loop-call.invariant.calls left w.in-Err.ensures.call (w.is_interrupted.ensures.0 w.if-not-is_interrupted.false));
      }
    ]

pub returns-else-is_empty-2-clause-cut_short : goal.returns-else-is_empty-2-clause-cut_short
returns-else-is_empty-2-clause-cut_short g c =
    let all : c.loop-call._call ≡ 2 ^ 64 - 1 = omega arith in
    stopped_at_last c.loop-call.invariant.calls (some_left _ _ c.is_empty-2.ensures c.if-is_empty-2.false) all

pub returns-else-is_empty-2-clause-front : goal.returns-else-is_empty-2-clause-front
returns-else-is_empty-2-clause-front g c = written_front _ _ _ _ c.loop-call.invariant.bytes (some_left _ _ c.is_empty-2.ensures c.if-is_empty-2.false)
