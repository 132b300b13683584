-- What made a block, as the meaning has it.
use Rattle.c_meaning.specs.Memory.{Kind, Entered, Allocated}
use Rattle.c_memory.specs.declared.block.Kind.{Kind as BlockKind}
use Rattle.c_memory.specs.declared.block.Kind.TheVariants as of

abbrev pub kind_of : BlockKind → Kind
kind_of of.Entered = Entered
kind_of of.Allocated = Allocated
