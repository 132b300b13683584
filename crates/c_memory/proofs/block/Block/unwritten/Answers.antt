use Rattle.std.proofs.Common.{List, Option, true, ap}
use Rattle.c_meaning.specs.declared.value.Value.{Value}
use Rattle.c_memory.specs.Kinds.{kind_of}
use Rattle.c_memory.proofs.BlockLemmas.{unwritten_cells}
use Rattle.c_memory.proofs.block.Block.unwritten.Goals as goal

pub returns-clause-begun : goal.returns-clause-begun
returns-clause-begun c =
    ap (λ (os : List (Option Value)). record { shape = c.args.shape; kind = kind_of c.args.kind; is_live = true; cells = os })
    (unwritten_cells c.args.layouts.now c.args.shape c.cell_count.result c.in_ok-cells.cells c.in_ok-cells.ensures.cells c.in_ok-cells.ensures.counted c.cell_count.ensures)
