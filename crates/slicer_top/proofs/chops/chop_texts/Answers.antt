use Rattle.std.proofs.Common.{refl}
use Rattle.call_words.specs.Requests.{Asked}
use Rattle.slicer_top.proofs.Making.{graph_refused, chop_made}
use Rattle.slicer_top.proofs.chops.chop_texts.Goals as goal

pub returns-in_err-engine : goal.returns-in_err-engine
returns-in_err-engine g c = λ file input.
    graph_refused c.args.program input (λ t. t.items) (Asked.chop file c.args.from c.args.to c.args.workers) (Asked.chop file c.args.from c.args.to c.args.workers) c.in_err-engine.field-0.0 c.from_residual.result refl tt
    c.in_err-engine.ensures.above c.from_residual.ensures.1

pub returns : goal.returns
returns g c = λ file input.
    chop_made c.args.program input c.in_ok-engine.engine c.in_ok-engine.ensures.program c.in_ok-engine.ensures.within (λ t. t.items)
    file c.args.from c.args.to c.args.workers c.chop_text_at.result c.chop_text_at.ensures
