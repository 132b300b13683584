-- Parts of objects, as the code has them.
use Rattle.std.specs.Prelude.{ℕ, ◌+◌}
use Rattle.c_language.specs.declared.expr_type.ExprType.{ExprType}
use Rattle.c_meaning.specs.Cells.{Subobject}
use Rattle.c_memory.specs.declared.layouts.Part.{Part}
use Rattle.c_memory.specs.Counts.{saturated}

abbrev pub object_of : Part → Subobject
object_of o = record { type = record { layers = o.layers.now; base = o.base }; before = o.before }

abbrev pub type_in : Part → ExprType
type_in o = record { layers = o.layers.now; base = o.base }

-- a part, in an object with so many cells before it
abbrev pub placed : ℕ → Subobject → Subobject
placed before o = record { type = o.type; before = saturated (before + o.before) }
