use Rattle.run_facts.proofs.CallersCalled.{callers_have_called}
use Rattle.run_facts.proofs.callers_have_called.Goals as goal

pub returns : goal.returns
returns c = callers_have_called
