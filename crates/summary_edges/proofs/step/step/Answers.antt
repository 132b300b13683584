use Rattle.summary_edges.proofs.StepLaws.{step_taken}
use Rattle.summary_edges.proofs.step.step.Goals as goal

pub read_off-requires-clause-room : goal.read_off-requires-clause-room
read_off-requires-clause-room c = c.fill.ensures.exact.room

pub returns-clause-exact : goal.returns-clause-exact
returns-clause-exact c =
    step_taken c.args.g.now c.args.words.now c.args.part c.fill.new.self c.args.words.now c.read_off.new.words c.read_off.result c.requires.index.shaped.rows_are c.fill.ensures.exact c.read_off.ensures

pub returns-clause-room : goal.returns-clause-room
returns-clause-room c = c.fill.ensures.shape

pub returns-clause-filled : goal.returns-clause-filled
returns-clause-filled c = c.fill.ensures.filled
