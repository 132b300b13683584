use Rattle.std.proofs.Common.{sym, ap, ◌∙◌}
use Rattle.std.specs.Prelude.{option_and_then}
use Rattle.c_tree.specs.declared.statement.Target.{Target}
use Rattle.c_language.specs.ExprTypes.{target_of}
use Rattle.c_meaning.specs.Acts.{target_type}
use Rattle.c_memory.specs.Scenes.{types_in}
use Rattle.c_memory.proofs.ExprForms.{typed}
use Rattle.c_acts.proofs.acts.pointed_type.Goals as goal

pub returns-in_ok-shape-in-Place : goal.returns-in_ok-shape-in-Place
returns-in_ok-shape-in-Place c =
    c.target_of.ensures
    ∙ ap target_of (c.in_ok-shape-in-Place.ensures ∙ typed c.args.s.program.now c.in-Place.e)
    ∙ ap (λ (to : Target). option_and_then target_of (target_type (types_in c.args.s) to)) (sym c.in-Place.is)
