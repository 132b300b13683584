use Rattle.std.proofs.Common.{refl, subst, sym, ◌∙◌}
use Rattle.std.specs.Prelude.{MatchResult}
use Rattle.c_meaning.specs.Meaning.{meaning}
use Rattle.call_words.specs.Requests.{Asked}
use Rattle.run_text.specs.Answers.{EndsWith}
use Rattle.run_text.specs.Lines.{trace_words}
use Rattle.slicer_top.specs.Runs.{IsRunFault}
use Rattle.slicer_top.specs.Slices.{IsOneText}
use Rattle.slicer_top.proofs.Making.{trace_made, trace_refused}
use Rattle.slicer_top.proofs.running.trace_texts.Goals as goal

pub returns-in_err-found : goal.returns-in_err-found
returns-in_err-found c = λ file name.
    trace_refused c.args.program.now c.args.input.now (λ t. t.items) (Asked.trace file c.args.lines.now name c.args.steps) file c.args.lines.now name c.args.steps
    c.in_err-found.field-0.0 c.from_residual.result refl c.in_err-found.ensures c.from_residual.ensures.1

pub returns : goal.returns
returns c = λ file name.
    trace_made c.args.program.now c.args.input.now (λ t. t.items) (Asked.trace file c.args.lines.now name c.args.steps) file c.args.lines.now c.in_ok-found.found.items name c.args.steps
    c.traced.result refl c.in_ok-found.ensures
    (subst
    (λ ls. MatchResult c.traced.result (λ t. IsOneText (EndsWith (trace_words c.args.program.now ls) (meaning c.args.steps c.args.program.now c.args.input.now)) t.items)
    (IsRunFault c.args.program.now (meaning c.args.steps c.args.program.now c.args.input.now)))
    c.as_slice.ensures.value c.traced.ensures)
