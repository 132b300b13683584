use Rattle.std.proofs.Common.{option_map, sym, ap, ◌∙◌}
use Rattle.c_acts.specs.Makings.{made_in}
use Rattle.c_machine.proofs.RunLemmas.{given_here, stored_so, stored_not, heard_at}
use Rattle.c_machine.proofs.runs.Run.store_value.Goals as goal

pub returns-in_ok-perform-in-Some-clause-stands : goal.returns-in_ok-perform-in-Some-clause-stands
returns-in_ok-perform-in-Some-clause-stands c =
    λ p before x h.
    let g = given_here p before c.args.self.now x c.scene.result c.args.target.now c.args.value h c.scene.ensures.program c.scene.ensures.frame c.scene.ensures.memory in
    stored_so p before c.perform.new.self x c.args.call c.in-Some.made _ _ (sym g) (ap (option_map made_in) (sym c.in-Some.is) ∙ c.in_ok-made.ensures) (λ m is. c.in_ok-perform-in-Some.ensures.stands p before x m is h)

pub returns-in-None-clause-stands : goal.returns-in-None-clause-stands
returns-in-None-clause-stands c =
    λ p before x h.
    let g = given_here p before c.args.self.now x c.scene.result c.args.target.now c.args.value h c.scene.ensures.program c.scene.ensures.frame c.scene.ensures.memory in
    stored_not p before c.args.self.now x c.args.call _ _ (sym g) (ap (option_map made_in) (sym c.in-None.is) ∙ c.in_ok-made.ensures) (heard_at p before c.args.self.now x h)
