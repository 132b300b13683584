use Rattle.std.proofs.Common.{◌≡◌, [], take}
use Rattle.c_language.specs.Limits.{cells_behind}
use Rattle.c_types.specs.Limits.{all_capped}
use Rattle.c_types.proofs.limits.struct_cells.Given as goal

abbrev pub invariant-loop-structure : goal.invariant-loop-structure
invariant-loop-structure l = l.found.items ≡ all_capped (cells_behind [] (take l.structure-index l.structs))
