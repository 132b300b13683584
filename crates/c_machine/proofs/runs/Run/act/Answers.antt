use Rattle.std.proofs.Common.{◌≡◌, ◌++◌, Option, Some, sym, ap, ◌∙◌}
use Rattle.std.specs.Option.{option_to_list}
use Rattle.c_machine.specs.declared.rests.Rest.{Rest}
use Rattle.c_machine.specs.declared.rests.Rest.TheVariants as rest
use Rattle.c_machine.proofs.PointLemmas.{at_popped, popped_code}
use Rattle.c_machine.proofs.runs.Run.act.Goals as goal

pub returns-in-Some-Act : goal.returns-in-Some-Act
returns-in-Some-Act c =
    λ p before x h.
    let popped : ◌≡◌ {A = Option Rest} c.pop.result (Some (rest.Act c.in-Some-Act.statement)) = cc in
    let items = c.pop.ensures.items ∙ ap (λ (o : Option Rest). c.pop.new.self.items ++ option_to_list o) popped in
    c.act_numbered.ensures p before x (at_popped p before c.args.self.now c.pop.new.self x h)
    (sym h.rest ∙ popped_code c.args.self.now.left.items c.pop.new.self.items (rest.Act c.in-Some-Act.statement) items)
