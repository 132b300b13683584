use Rattle.std.proofs.Common.{refl, sym, ap, ◌∙◌, option_map}
use Rattle.c_machine.proofs.RunLemmas.{plain_made, plain_done, plain_not, heard_at}
use Rattle.c_meaning.specs.Steps.{Point}
use Rattle.c_acts.specs.Makings.{made_in}
use Rattle.c_machine.specs.Rests.{left_code}
use Rattle.c_machine.proofs.runs.Run.plain.Goals as goal

pub returns-in_ok-perform-in-Some : goal.returns-in_ok-perform-in-Some
returns-in_ok-perform-in-Some c =
    λ p before x a h own e.
    let k = left_code c.args.self.now.left.items in
    let y : Point = record x { rest = k } in
    let q = plain_made p before c.args.self.now y c.scene.result _ c.args.self.now.state.unread.now _ a h c.scene.ensures.program c.scene.ensures.frame c.scene.ensures.memory c.result_of-returns.ensures refl own in
    plain_done p before c.perform.new.self x c.args.id a k c.in-Some.made _ e q (ap (option_map made_in) (sym c.in-Some.is) ∙ c.in_ok-made.ensures) (λ m is. c.in_ok-perform-in-Some.ensures.stands p before y m is h)

pub returns-in-None : goal.returns-in-None
returns-in-None c =
    λ p before x a h own e.
    let k = left_code c.args.self.now.left.items in
    let y : Point = record x { rest = k } in
    let q = plain_made p before c.args.self.now y c.scene.result _ c.args.self.now.state.unread.now _ a h c.scene.ensures.program c.scene.ensures.frame c.scene.ensures.memory c.result_of-returns.ensures refl own in
    plain_not p before c.args.self.now x c.args.id a k _ e q (ap (option_map made_in) (sym c.in-None.is) ∙ c.in_ok-made.ensures) (heard_at p before c.args.self.now y h)
