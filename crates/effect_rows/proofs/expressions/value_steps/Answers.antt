-- A value that is neither an array nor a pointer points nowhere.
use Rattle.std.proofs.Common.{sym, ap, ◌∙◌}
use Rattle.c_language.specs.ExprTypes.{is_array, is_pointer}
use Rattle.effect_rows.specs.Named.{named_by}
use Rattle.effect_rows.specs.Steps.{taken}
use Rattle.effect_rows.proofs.PlaceLemmas.{taken-Nowhere, taken-none, value_nowhere}
use Rattle.effect_rows.proofs.expressions.value_steps.Goals as goal

pub returns-else-is_pointer : goal.returns-else-is_pointer
returns-else-is_pointer c p points d place type =
    ap (λ f. f (named_by d)) (taken-Nowhere p points)
    ∙ sym (taken-none p points c.args.then.now)
    ∙ ap (taken p points c.args.then.now) (sym (value_nowhere p points d (place ∙ c.if-not-is_place.false) (ap is_array type ∙ sym (c.is_array.ensures p) ∙ c.if-is_array.false) (ap is_pointer type ∙ sym (c.is_pointer.ensures p) ∙ c.if-is_pointer.false)))
