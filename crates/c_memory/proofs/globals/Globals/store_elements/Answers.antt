use Rattle.std.proofs.Common.{ap, option_map}
use Rattle.c_memory.specs.Lists.{items_of}
use Rattle.c_memory.proofs.GlobalLemmas.{values_turn, list_stored, no_list_stored}
use Rattle.c_memory.proofs.globals.Globals.store_elements.Goals as goal

pub returns-in_ok-store_list-in-Some-clause-memory : goal.returns-in_ok-store_list-in-Some-clause-memory
returns-in_ok-store_list-in-Some-clause-memory c = λ s h.
    list_stored c.args.p.now c.args.length c.args.element.now c.args.block c.args.items.now c.args.self.now.memory c.store_list.new.self c.args.self.now.frame s
    (option_map items_of c.in_ok-values.field-0) c.in-Some.values.items c.in_ok-store_list-in-Some.field-0 h
    (values_turn c.args.p.now c.scene.result.program.now c.args.items.now c.args.element.now c.args.self.now.memory c.scene.result.memory.now c.args.self.now.frame c.scene.result.frame.now _
    c.scene.ensures.program c.scene.ensures.frame c.scene.ensures.memory c.in_ok-values.ensures)
    (ap (option_map items_of) c.in-Some.is) c.in_ok-store_list-in-Some.ensures.answer c.in_ok-store_list-in-Some.ensures.stored

pub returns-in-None-clause-memory : goal.returns-in-None-clause-memory
returns-in-None-clause-memory c = λ s h.
    no_list_stored c.args.p.now c.args.length c.args.element.now c.args.block c.args.items.now c.args.self.now.memory c.args.self.now.frame s
    (option_map items_of c.in_ok-values.field-0) h
    (values_turn c.args.p.now c.scene.result.program.now c.args.items.now c.args.element.now c.args.self.now.memory c.scene.result.memory.now c.args.self.now.frame c.scene.result.frame.now _
    c.scene.ensures.program c.scene.ensures.frame c.scene.ensures.memory c.in_ok-values.ensures)
    (ap (option_map items_of) c.in-None.is)
