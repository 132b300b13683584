use Rattle.std.proofs.Common.{◌≡◌, length, refl}
use Rattle.c_memory.proofs.ListLemmas.{too_long, fits}
use Rattle.c_memory.proofs.memory.Memory.can_store_list.Goals as goal

pub returns-then-count-length : goal.returns-then-count-length
returns-then-count-length c =
    too_long c.args.self.now c.args.block c.args.element.now c.args.length (length c.args.items.now) c.args.items.now refl c.if-count-length.true

pub returns : goal.returns
returns c =
    fits c.args.self.now c.args.block c.args.element.now c.args.length (length c.args.items.now) c.args.items.now c.in_ok-at.at c.has_elements.result refl c.if-count-length.false
    c.in_ok-at.ensures c.has_elements.ensures.answer
