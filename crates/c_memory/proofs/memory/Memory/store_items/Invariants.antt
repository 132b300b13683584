use Rattle.std.proofs.Common.{◌≡◌, ◌≤◌, ◌+◌, length}
use Rattle.std.specs.Vec.Iter.{into_iter_items, into_iter_len}
use Rattle.c_meaning.specs.Acts.{stored}
use Rattle.c_memory.specs.Lists.{item_stores}
use Rattle.c_memory.proofs.memory.Memory.store_items.Given as goal

abbrev pub invariant-loop-item : goal.invariant-loop-item
invariant-loop-item l = record {
  stored : stored (item_stores l.initial.at.block l.index (into_iter_items l.item-iterator)) l.self ≡ stored (item_stores l.initial.at.block 0 (into_iter_items l.initial.item-iterator)) l.initial.self;
  few : l.index + length (into_iter_items l.item-iterator) ≤ 4294967295;
  counted : into_iter_len l.item-iterator ≡ length (into_iter_items l.item-iterator);
  block : l.at.block ≡ l.initial.at.block;
  single : length l.at.path ≡ 1;
}
