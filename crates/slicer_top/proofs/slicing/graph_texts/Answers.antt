use Rattle.std.proofs.Common.{refl}
use Rattle.call_words.specs.Requests.{Asked}
use Rattle.slicer_top.proofs.Making.{graph_made, graph_refused, memory_made}
use Rattle.slicer_top.proofs.slicing.graph_texts.Goals as goal

pub returns-in_err-engine : goal.returns-in_err-engine
returns-in_err-engine g c = λ file input.
    graph_refused c.args.program input (λ t. t.items) (Asked.graph file c.args.workers) (Asked.graph file c.args.workers) c.in_err-engine.field-0.0 c.from_residual.result refl tt
    c.in_err-engine.ensures.above c.from_residual.ensures.1

pub returns-in_err-texts : goal.returns-in_err-texts
returns-in_err-texts g c = λ file input.
    memory_made c.args.program input (λ t. t.items) (Asked.graph file c.args.workers) _ c.from_residual-in_err-texts.result refl c.from_residual-in_err-texts.ensures.1

pub returns : goal.returns
returns g c = λ file input.
    graph_made c.args.program input c.in_ok-engine.engine c.in_ok-engine.ensures.program c.in_ok-engine.ensures.within (Asked.graph file c.args.workers) file c.args.workers c.in_ok-texts.texts.items refl c.in_ok-texts.ensures
