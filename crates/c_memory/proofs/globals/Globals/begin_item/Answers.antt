use Rattle.c_memory.proofs.GlobalLemmas.{on_ok, global_turn}
use Rattle.c_memory.proofs.globals.Globals.begin_item.Goals as goal

pub returns-in-Global : goal.returns-in-Global
returns-in-Global c = λ s h.
    on_ok c.begin.result
    (global_turn c.args.p.now c.args.item.now c.in-Global.x c.in-Global.init c.begin.new.self.memory c.begin.new.self.frame s c.in-Global.is)
    (c.begin.ensures s h)
