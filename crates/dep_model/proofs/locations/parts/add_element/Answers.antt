use Rattle.dep_model.proofs.LocationParts.{element_step}
use Rattle.dep_model.proofs.locations.parts.add_element.Goals as goal

pub returns : goal.returns
returns c = λ p r.
    element_step p r c.args.of c.push.new.self c.remove-array.new.self c.args.waiting.now.items c.push-2.new.self.items
    c.requires c.in_ok-push.ensures.ok c.remove-array.ensures.rest c.in_ok-push-2.ensures.items
