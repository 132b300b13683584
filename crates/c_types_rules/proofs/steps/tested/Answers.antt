use Rattle.c_language.specs.Phrases as phrases
use Rattle.c_types_rules.proofs.steps.tested.Goals as goal

pub returns : goal.returns
returns c = c.number_on.ensures (phrases.Tests c.args.test.now) c.check_test-verdict.ensures
