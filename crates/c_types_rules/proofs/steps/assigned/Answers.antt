use Rattle.c_language.specs.Phrases as phrases
use Rattle.c_types_rules.proofs.steps.assigned.Goals as goal

pub returns : goal.returns
returns c = c.number_on.ensures (phrases.Assigns c.args.left.now c.args.op c.args.right.now) c.check_assignment-verdict.ensures
