use Rattle.std.proofs.Common.{subst, Err}
use Rattle.c_language.specs.ProgramOf.{ctype}
use Rattle.c_types_trees.specs.Shapes.{Shapes}
use Rattle.c_types_trees.proofs.ShapeLemmas.{never_long}
use Rattle.c_types_trees.proofs.shapes.plain_shape.Goals as goal

pub unreachable-requires-in-Err-Length : goal.unreachable-requires-in-Err-Length
unreachable-requires-in-Err-Length c =
    never_long c.args.defined.now.raw.now c.args.shape.now c.requires.plain c.requires.there
    (subst (λ e. Shapes (ctype c.args.defined.now.raw.now c.args.shape.now) (Err e)) c.in-Err-Length.field-0-is c.in-Err-Length.ensures)
