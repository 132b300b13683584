use Rattle.c_language.specs.Phrases as phrases
use Rattle.c_types_rules.proofs.steps.bumped.Goals as goal

pub returns : goal.returns
returns c = c.number_on.ensures (phrases.Bumps c.args.left.now) c.check_bump-verdict.ensures
