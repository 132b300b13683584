-- An array by what is denoted is one by what is designated.
use Rattle.std.proofs.Common.{◌&&◌, sym, ap, ◌∙◌}
use Rattle.c_language.specs.ExprTypes.{is_array}
use Rattle.c_language.specs.TreeTypes.{tree_type}
use Rattle.effect_rows.proofs.DesignatedLaws.{is_array_designated}
use Rattle.effect_rows.proofs.expressions.is_array_object.Goals as goal

pub returns-then-is_place-clause-designated : goal.returns-then-is_place-clause-designated
returns-then-is_place-clause-designated c =
    let p = c.args.p.now in
    let e = c.args.e.now in
    is_array_designated p e c.is_array.result (λ points. c.is_array.ensures p ∙ ap is_array c.type_of.ensures.seen
    ∙ ap (λ t. t && is_array (tree_type p e)) (sym (sym (c.is_place.ensures p points) ∙ c.if-is_place.true)))

pub returns-else-is_place-clause-designated : goal.returns-else-is_place-clause-designated
returns-else-is_place-clause-designated c =
    let p = c.args.p.now in
    let e = c.args.e.now in
    is_array_designated p e c.is_place.result (λ points. c.if-is_place.false ∙ ap (λ t. t && is_array (tree_type p e)) (sym (sym (c.is_place.ensures p points) ∙ c.if-is_place.false)))
