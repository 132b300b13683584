use Rattle.c_memory.proofs.GlobalLemmas.{value_turn}
use Rattle.c_memory.proofs.globals.Globals.store_value.Goals as goal

pub returns-clause-memory : goal.returns-clause-memory
returns-clause-memory c = λ s h.
    value_turn c.args.p.now c.scene.result.program.now c.args.e.now c.args.shape.now c.args.block c.args.self.now.memory c.scene.result.memory.now c.store_whole.new.self
    c.args.self.now.frame c.scene.result.frame.now s c.in_ok-given.given c.converted.result h c.scene.ensures.program c.scene.ensures.frame c.scene.ensures.memory
    c.in_ok-given.ensures c.converted.ensures c.store_whole.ensures
