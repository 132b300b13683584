use Rattle.std.proofs.Common.{◌≡◌, ◌+◌, ◌≤◌, ◌++◌, List, ℕ, length, take, sym, ap, subst, arith, rules}
use Rattle.edge_io.specs.ReadCalls.{Reads, IsUnreadable}
use Rattle.edge_io.proofs.Streams.{HasRead, unread, gives_front, read_none, read_more}
use Rattle.edge_io.proofs.CallLemmas.{other_kind, unread_at_last}
use Rattle.edge_io.proofs.file_shelf.read_up_to.Goals.{in-Ok+in_ok-extend_from_slice-in-Ok, in-Err+else-not-is_interrupted}
use Rattle.edge_io.proofs.file_shelf.read_up_to.Goals as goal

pub loop-call-init : goal.loop-call-init
loop-call-init g c =
    let none = sym c.new-bytes.ensures.items in
    record {
      bytes = subst (HasRead c.args.limit (g.S.Read.remaining c.args.source.now) (g.S.Read.remaining c.args.source.now)) none (unread _ _);
      calls = subst (λ bytes. Reads g.S.Source.may_read c.args.source.now 0 bytes c.args.source.now) none Reads.begins;
    }

pub returns-then-not-is_interrupted-clause-unreadable : goal.returns-then-not-is_interrupted-clause-unreadable
returns-then-not-is_interrupted-clause-unreadable g c =
    λ _. IsUnreadable.failed c.loop-call.invariant.calls c.in-Err.ensures.call (other_kind _ c.is_interrupted.ensures c.if-not-is_interrupted.true)

pub loop-call-preserved : goal.loop-call-preserved
loop-call-preserved g c =
    let source = c.read_once.new.self in
    let buffer = c.read_once.new.buffer in
    let before = c.loop-call.bytes.items in
    let read : List ℕ → Type 0 = HasRead c.args.limit (g.S.Read.remaining c.args.source.now) (g.S.Read.remaining source) in
    let calls : List ℕ → Type 0 = λ bytes. Reads g.S.Source.may_read c.args.source.now (c.loop-call._call + 1) bytes source in
    elim c.match-read_once.branch [
      | in-Ok+in_ok-extend_from_slice-in-Ok w ↦
          let more = take w.in-Ok.count buffer in
          let grown : w.extend_from_slice.new.self.items ≡ before ++ more = gives_front _ _ _ _ _ w.in_ok-extend_from_slice-in-Ok.ensures.items w.in-Ok.ensures.bound.0 in
          let now : (P : List ℕ → Type 0) → P (before ++ more) → P c.match-read_once.bytes.items = λ P holds. subst P (sym (ap (λ v. v.items) w.bytes-is)) (subst P (sym grown) holds) in
          let long : length buffer ≡ c.min-wanted.result = search rules in
          let fits : length before + length more ≤ c.args.limit = omega (arith, c.loop-call.bytes.ok.0, c.loop-call.invariant.bytes.within, w.in-Ok.ensures.bound.0, w.in-Ok.ensures.bound.1) in
          record {
            bytes = now read (read_more _ _ _ _ _ _ c.loop-call.invariant.bytes w.in-Ok.ensures.bytes.0 fits);
            calls = now calls (Reads.gave c.loop-call.invariant.calls w.in-Ok.ensures.call (omega arith));
          }
      | in-Err+else-not-is_interrupted w ↦
          let same = sym (ap (λ v. v.items) w.bytes-is) in
          record {
            bytes = subst read same (read_none _ _ _ _ _ c.loop-call.invariant.bytes w.in-Err.ensures.bytes);
            calls = subst calls same (Reads.interrupted c.loop-call.invariant.calls w.in-Err.ensures.call (w.is_interrupted.ensures.0 w.if-not-is_interrupted.false));
          }
    ]

pub returns-clause-unreadable : goal.returns-clause-unreadable
returns-clause-unreadable g c = λ _. unread_at_last c.loop-call.invariant.calls (omega arith)
