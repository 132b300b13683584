use Rattle.std.proofs.Common.{length, refl, ap, ◌∙◌}
use Rattle.c_meaning.specs.Activations.{executable, global_opened}
use Rattle.c_meaning.specs.Memory.{Memory}
use Rattle.c_memory.proofs.GlobalLemmas.{on_ok, opened_at, begun_none, begun_one, begun_items}
use Rattle.c_memory.proofs.globals.Globals.begin.Goals as goal

pub returns-in-None : goal.returns-in-None
returns-in-None c = λ s h.
    begun_none c.args.p.now c.args.x c.args.init.now c.begin_global.new.self c.bind.new.frame s c.in-None.is
    (opened_at c.args.p.now c.args.x c.in_ok-block.block c.in_ok-shape.shape c.args.self.now.memory c.begin_global.new.self c.args.self.now.frame c.bind.new.frame s h
    c.in_ok-shape.ensures c.in_ok-block.ensures.number c.in_ok-block.ensures.begun c.in_ok-bind.ensures)

pub returns-in-One : goal.returns-in-One
returns-in-One c = λ s h.
    let opened =
    opened_at c.args.p.now c.args.x c.in_ok-block.block c.in_ok-shape.shape c.args.self.now.memory c.begin_global.new.self c.args.self.now.frame c.bind.new.frame s h
    c.in_ok-shape.ensures c.in_ok-block.ensures.number c.in_ok-block.ensures.begun c.in_ok-bind.ensures in
    let number = c.in_ok-block.ensures.number ∙ ap (λ (m : Memory). length m.blocks) h.memory in
    on_ok c.store_value.result
    (λ gives.
    begun_one c.args.p.now c.args.x c.in_ok-block.block c.in_ok-shape.shape c.args.init.now c.in-One.e c.in-One.e c.begin_global.new.self c.store_value.new.self.memory
    c.bind.new.frame c.store_value.new.self.frame s c.in-One.is refl opened c.in_ok-shape.ensures number gives c.store_value.ensures.frame)
    (c.store_value.ensures.memory (global_opened (executable c.args.p.now) c.args.x s) opened)

pub returns : goal.returns
returns c = λ s h.
    let opened =
    opened_at c.args.p.now c.args.x c.in_ok-block.block c.in_ok-shape.shape c.args.self.now.memory c.begin_global.new.self c.args.self.now.frame c.bind.new.frame s h
    c.in_ok-shape.ensures c.in_ok-block.ensures.number c.in_ok-block.ensures.begun c.in_ok-bind.ensures in
    let number = c.in_ok-block.ensures.number ∙ ap (λ (m : Memory). length m.blocks) h.memory in
    on_ok c.store_items.result
    (λ gives.
    begun_items c.args.p.now c.args.x c.in_ok-block.block c.in_ok-shape.shape c.args.init.now c.in-Items.es c.as_slice.result.now c.begin_global.new.self
    c.store_items.new.self.memory c.bind.new.frame c.store_items.new.self.frame s c.in-Items.is c.as_slice.ensures opened c.in_ok-shape.ensures number gives c.store_items.ensures.frame)
    (c.store_items.ensures.memory (global_opened (executable c.args.p.now) c.args.x s) opened)
