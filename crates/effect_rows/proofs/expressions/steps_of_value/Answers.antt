-- The steps are those for the type of what the expression denotes.
use Rattle.std.proofs.Common.{◌≡◌, sym, ◌∙◌, subst}
use Rattle.c_tree.specs.declared.program.Program.{Program}
use Rattle.c_language.specs.TreeTypes.{tree_type}
use Rattle.dep_model.specs.Denoted.{denoted}
use Rattle.effect_rows.specs.SeenTypes.{type_seen}
use Rattle.effect_rows.proofs.TypeLemmas.{denoted_type}
use Rattle.effect_rows.proofs.expressions.steps_of_value.Goals as goal

pub returns : goal.returns
returns c points =
    let p = c.args.g.now.program in
    let e = c.args.e.now in
    let seen : type_seen p c.type_of.result ≡ tree_type p e = subst (λ (q : Program). type_seen q c.type_of.result ≡ tree_type q e) c.program.ensures c.type_of.ensures.seen in
    c.value_steps.ensures p points (denoted p points e) (sym (c.is_place.ensures p points)) (denoted_type p points e ∙ sym seen)
