use Rattle.std.proofs.Common.{◌≡◌, ◌-◌, length}
use Rattle.c_memory.specs.Lists.{are_cells}
use Rattle.c_memory.proofs.memory.Memory.has_elements.Given as goal

abbrev pub invariant-loop-index : goal.invariant-loop-index
invariant-loop-index l = record {
  cells : are_cells l.self l.initial.at.block l.index (l.count - l.index) ≡ are_cells l.self l.initial.at.block 0 l.count;
  block : l.at.block ≡ l.initial.at.block;
  single : length l.at.path ≡ 1;
}
