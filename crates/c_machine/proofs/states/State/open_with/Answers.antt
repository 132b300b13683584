use Rattle.std.proofs.Common.{refl, ap}
use Rattle.c_meaning.specs.declared.value.Place.{Place}
use Rattle.c_machine.proofs.StateLemmas.{begun_at}
use Rattle.c_machine.proofs.states.State.open_with.Goals as goal

pub returns : goal.returns
returns c = λ s h.
    begun_at c.args.program.now c.args.x c.in_ok-block.block c.args.value _ c.args.self.now c.open.new.self _ s h (c.in_ok-block.ensures.opened s h) c.in_ok-block.ensures.number
    (ap {B = Place} (λ path. record { block = c.in_ok-block.block; path = path }) c.new-path.ensures) c.write.ensures.written refl refl refl
