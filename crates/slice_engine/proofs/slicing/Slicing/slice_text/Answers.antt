use Rattle.std.proofs.Common.{subst}
use Rattle.slice_engine.specs.Slice.{IsFaithful}
use Rattle.slice_engine.proofs.SliceLaws.{is_faithful}
use Rattle.slice_engine.proofs.slicing.Slicing.slice_text.Goals as goal

pub returns-clause-faithful : goal.returns-clause-faithful
returns-clause-faithful c =
    let p = c.self.inside.program.now in
    let well = c.self.invariant.passing.prepared.well_formed in
    subst (λ q. IsFaithful q c.args.c.line c.in_ok-text.text) c.self.view_is (is_faithful p c.args.c.line c.in_ok-text.text well c.in_ok-text.ensures.read)
