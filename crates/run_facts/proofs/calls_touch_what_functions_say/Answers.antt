use Rattle.run_facts.proofs.CallTouched.{calls_touch}
use Rattle.run_facts.proofs.calls_touch_what_functions_say.Goals as goal

pub returns : goal.returns
returns c = calls_touch
