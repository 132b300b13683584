use Rattle.std.proofs.Common.{◌≡◌, Some}
use Rattle.c_language.specs.ProgramOf.{ctype}
use Rattle.c_language.specs.TypeGrammar.{pointed_n}
use Rattle.c_types_trees.proofs.shapes.named_shape.Given as goal

abbrev pub invariant-loop-star : goal.invariant-loop-star
invariant-loop-star l = ctype l.tables.raw.now (pointed_n l._star l.name.base) ≡ Some l.shape
