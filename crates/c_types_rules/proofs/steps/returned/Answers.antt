use Rattle.c_language.specs.Phrases as phrases
use Rattle.c_types_rules.proofs.steps.returned.Goals as goal

pub returns : goal.returns
returns c = c.number_on.ensures (phrases.Returns c.args.value.now) c.check_return-verdict.ensures
