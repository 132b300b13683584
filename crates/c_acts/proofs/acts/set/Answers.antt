use Rattle.std.proofs.Common.{Option, ap, ap₂, ◌∙◌}
use Rattle.c_language.specs.declared.expr_type.ExprType.{ExprType}
use Rattle.c_meaning.specs.declared.value.Place.{Place}
use Rattle.c_meaning.specs.Acts.{assigned, writable}
use Rattle.c_memory.specs.Scenes.{state_in}
use Rattle.c_memory.proofs.ExprForms.{typed}
use Rattle.c_acts.proofs.ActLemmas.{made_as}
use Rattle.c_acts.proofs.acts.set.Goals as goal

pub returns : goal.returns
returns c =
    made_as c.storing.result _ _
    (ap₂ (λ (t : ExprType) (o : Option Place). assigned t o c.args.given) (c.in_ok-shape.ensures ∙ typed c.args.s.program.now c.args.left.now) (c.writable-at.ensures ∙ ap (writable (state_in c.args.s)) c.in_ok-place.ensures))
    c.storing.ensures
