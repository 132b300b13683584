-- The type that is seen is the expression's.
use Rattle.std.proofs.Common.{◌≡◌, ap, ◌∙◌, subst}
use Rattle.c_tree.specs.declared.program.Program.{Program}
use Rattle.c_language.specs.ExprTypes.{is_pointer}
use Rattle.c_language.specs.TreeTypes.{tree_type}
use Rattle.effect_rows.specs.SeenTypes.{type_seen}
use Rattle.effect_rows.proofs.expressions.points.Goals as goal

pub returns : goal.returns
returns c =
    let p = c.args.g.now.program in
    let e = c.args.e.now in
    let seen : type_seen p c.type_of.result ≡ tree_type p e = subst (λ (q : Program). type_seen q c.type_of.result ≡ tree_type q e) c.program.ensures c.type_of.ensures.seen in
    c.is_pointer.ensures p ∙ ap is_pointer seen
