use Rattle.std.proofs.Common.{Some, sym, ap, subst, ◌∙◌}
use Rattle.c_language.specs.ProgramOf.{ctype}
use Rattle.c_types_trees.proofs.ShapeLemmas.{base_given, star_more}
use Rattle.c_types_trees.proofs.shapes.named_shape.Goals as goal
use Rattle.c_language.specs.Options.{IsThere}

pub plain_shape-requires-clause-there : goal.plain_shape-requires-clause-there
plain_shape-requires-clause-there c =
    subst (λ r. IsThere (ctype r c.args.name.now.base)) (sym c.requires.right.text)
    (base_given c.args.tables.now.raw.now c.args.name.now.stars c.args.name.now.base c.requires.there)

pub loop-star-preserved : goal.loop-star-preserved
loop-star-preserved c =
    star_more c.args.tables.now.raw.now c.loop-star._star c.args.name.now.base c.in_ok-new.field-0 (c.loop-star.invariant ∙ ap Some (sym c.in_ok-new.ensures))
