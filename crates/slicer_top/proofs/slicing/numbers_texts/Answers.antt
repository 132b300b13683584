use Rattle.std.proofs.Common.{refl, subst, sym}
use Rattle.call_words.specs.Requests.{Asked}
use Rattle.slicer_top.specs.SliceNumbers.{HasSomeStart}
use Rattle.slicer_top.proofs.Big.{some_start}
use Rattle.slicer_top.proofs.Making.{big_made, graph_refused, memory_made}
use Rattle.slicer_top.proofs.slicing.numbers_texts.Goals as goal

pub returns-in_err-engine : goal.returns-in_err-engine
returns-in_err-engine g c = λ seed size input.
    graph_refused c.args.program input (λ t. t.items) (Asked.big seed size c.args.workers) (Asked.big seed size c.args.workers) c.in_err-engine.field-0.0 c.from_residual.result refl tt
    c.in_err-engine.ensures.above c.from_residual.ensures.1

pub numbers_text-requires : goal.numbers_text-requires
numbers_text-requires g c = subst HasSomeStart (sym c.in_ok-engine.ensures.program) (some_start c.args.program c.requires.well_formed c.requires.some)

pub returns-in_err-texts : goal.returns-in_err-texts
returns-in_err-texts g c = λ seed size input.
    memory_made c.args.program input (λ t. t.items) (Asked.big seed size c.args.workers) _ c.from_residual-in_err-texts.result refl c.from_residual-in_err-texts.ensures.1

pub returns : goal.returns
returns g c = λ seed size input.
    big_made c.args.program input c.in_ok-engine.engine c.in_ok-engine.ensures.program c.in_ok-engine.ensures.within seed size c.args.workers c.in_ok-texts.texts.items c.in_ok-texts.ensures
