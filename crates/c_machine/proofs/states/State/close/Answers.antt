use Rattle.std.proofs.Common.{List, Option, ℕ, Some, None, refl, sym, ap, ◌∙◌}
use Rattle.c_memory.specs.Scenes.{frame_of}
use Rattle.c_machine.proofs.StateLemmas.{closed_at, bound_none}
use Rattle.c_machine.proofs.states.State.close.Goals as goal

pub returns-in-Some : goal.returns-in-Some
returns-in-Some c = λ s h.
    let here = ap (λ (f : List (Option ℕ)). frame_of f c.args.x) (sym c.as_slice.ensures.value) ∙ sym c.block_of.ensures ∙ c.in-Some.is in
    closed_at c.args.x (Some c.in-Some.block) c.args.self.now _ s h here c.leave.ensures c.unbind.ensures refl refl

pub returns-in-None : goal.returns-in-None
returns-in-None c = λ s h.
    let here = ap (λ (f : List (Option ℕ)). frame_of f c.args.x) (sym c.as_slice.ensures.value) ∙ sym c.block_of.ensures ∙ c.in-None.is in
    closed_at c.args.x None c.args.self.now _ s h here refl (bound_none (frame_of c.args.self.now.frame.items) c.args.x here) refl refl
