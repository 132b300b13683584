use Rattle.std.proofs.Common.{◌<◌, ◌∙◌, sym, ap, subst}
use Rattle.completion.specs.Closing.{Closing, Closes}
use Rattle.completion.proofs.Closures.{completion_is}
use Rattle.completion.proofs.closer.Closer.close_up.Goals as goal

pub returns-clause-completes : goal.returns-clause-completes
returns-clause-completes c = λ p g m closes entry.
    let inside = c.self.inside in
    let view = c.self.view_is in
    let own = subst (Closes p g) (sym view) closes in
    let main = own.entry m entry in
    let size = c.requires ∙ sym (ap (λ (k : Closing). k.size) view) in
    completion_is p g.edges g.vertices own.names inside.closure.rules m c.args.set.now c.add_main.new.set c.close.new.set
    own.names_are own.rules_are (subst (λ n. m < n) (sym size) (c.self.invariant m main)) (c.add_main.ensures.adds m main) c.close.ensures.size c.close.ensures.exact
