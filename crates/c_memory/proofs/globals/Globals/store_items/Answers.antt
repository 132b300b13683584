use Rattle.std.proofs.Common.{◌≡◌, List, sym, ◌∙◌, subst, OnOk}
use Rattle.c_meaning.specs.Acts.{Store, stored}
use Rattle.c_memory.proofs.GlobalLemmas.{elements_stored}
use Rattle.c_memory.proofs.globals.Globals.store_items.Goals as goal

pub returns-in-Some-clause-memory : goal.returns-in-Some-clause-memory
returns-in-Some-clause-memory c = λ s h.
    let t = c.args.shape.now in
    subst (λ (ws : List Store). OnOk c.store_elements.result (c.store_elements.new.self.memory ≡ stored ws c.args.self.now.memory))
    (elements_stored c.args.p.now t.layers t.base c.in-Some.length c.in-Some.element c.args.block c.args.items.now s (sym c.in_ok-length.ensures ∙ c.in-Some.is))
    (c.store_elements.ensures.memory s h)
