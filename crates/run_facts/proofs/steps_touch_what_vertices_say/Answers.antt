use Rattle.run_facts.proofs.Touched.{steps_touch}
use Rattle.run_facts.proofs.steps_touch_what_vertices_say.Goals as goal

pub returns : goal.returns
returns c = steps_touch
