use Rattle.std.proofs.Common.{◌≡◌, ℕ, inl, inr, Option, Result, Ok, Err, IfOk, MatchResult, subst}
use Rattle.c_language.specs.Words.{Bytes}
use Rattle.call_words.specs.Requests.{Asked, asked_by}
use Rattle.slicer_top.specs.Lines as lines
use Rattle.slicer_top.specs.Reports.{PutsLine, IsReported, status_of, words_of}
use Rattle.slicer_top.specs.declared.refusal.Refusal.{Refusal}
use Rattle.slicer_top.specs.declared.status.Status.{Status}
use Rattle.slicer_top.specs.declared.status.Status.TheVariants.{NoMemory}
use Rattle.slicer_top.proofs.report.report.Goals as goal

-- the line was made and told, or that memory was wanting for it
module _ (faults faults' : ℕ) (before after : Option Bytes) (asked : Asked) (refusal : Refusal) (status result : Status) where
  reported : {E : Type 0} (made : Result Bytes E) → IfOk made (λ line. line ≡ words_of asked refusal) → status ≡ status_of refusal
      → MatchResult made (λ line. PutsLine faults faults' before after status line result) (λ e. PutsLine faults faults' before after NoMemory lines.out_of_memory result)
      → IsReported faults faults' before after asked refusal result
  reported (Ok line) is same told =
      inl (subst (λ s. PutsLine faults faults' before after s (words_of asked refusal) result) same (subst (λ words. PutsLine faults faults' before after status words result) is told))
  reported (Err e) is same told = inr told

pub returns-clause-told : goal.returns-clause-told
returns-clause-told g c =
    reported (g.E.Sink.faults c.args.err.now) (g.E.Sink.faults c.tell_made.new.err) (g.E.Sink.written c.args.err.now) (g.E.Sink.written c.tell_made.new.err)
    (asked_by c.args.request.now) c.args.refusal.now c.status_of.result c.tell_made.result c.line_of.result c.line_of.ensures.made c.status_of.ensures c.tell_made.ensures.told
