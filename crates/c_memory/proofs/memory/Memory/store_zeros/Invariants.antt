use Rattle.std.proofs.Common.{◌≡◌, ◌-◌, [], length}
use Rattle.c_meaning.specs.Acts.{stored, list_stores}
use Rattle.c_meaning.specs.Values.{whole}
use Rattle.c_memory.proofs.memory.Memory.store_zeros.Given as goal

abbrev pub invariant-loop-index : goal.invariant-loop-index
invariant-loop-index l = record {
  stored : stored (list_stores (whole l.initial.at.block) l.element l.index (l.to - l.index) []) l.self ≡ stored (list_stores (whole l.initial.at.block) l.element l.from (l.to - l.from) []) l.initial.self;
  block : l.at.block ≡ l.initial.at.block;
  single : length l.at.path ≡ 1;
}
