use Rattle.std.proofs.Common.{List, Option, true, sym, ap, subst}
use Rattle.c_meaning.specs.declared.value.Value.{Value}
use Rattle.c_meaning.specs.Memory.{Entered}
use Rattle.c_memory.specs.Whole.{IsWhole}
use Rattle.c_memory.proofs.BlockLemmas.{zeros_whole}
use Rattle.c_memory.proofs.block.Block.zeros.Goals as goal

pub returns-clause-begun : goal.returns-clause-begun
returns-clause-begun c = ap (λ (os : List (Option Value)). record { shape = c.args.shape; kind = Entered; is_live = true; cells = os }) c.in_ok-cells.ensures.cells

pub returns-clause-whole : goal.returns-clause-whole
returns-clause-whole c = subst (IsWhole c.args.layouts.now) (sym (returns-clause-begun c)) (zeros_whole c.args.layouts.now c.args.shape c.in_ok-cells.ensures.counted)
