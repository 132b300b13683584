use Rattle.dep_model.specs.Facts.{HoldsFact}
use Rattle.summary_edges.proofs.FillLaws.{filled_exits}
use Rattle.summary_edges.proofs.StepLaws.{step_taken}
use Rattle.summary_edges.proofs.step.step_again.Goals as goal

pub read_off-requires-clause-part : goal.read_off-requires-clause-part
read_off-requires-clause-part c = c.refill.ensures.filled.filling.part

pub read_off-requires-clause-room : goal.read_off-requires-clause-room
read_off-requires-clause-room c = c.refill.ensures.filled.filling.room

pub returns-clause-exact : goal.returns-clause-exact
returns-clause-exact c =
    let g = c.args.g.now in
    let filled = c.refill.ensures.filled in
    step_taken g c.args.words.now c.args.part c.refill.new.self c.args.words.now c.read_off.new.words c.read_off.result c.requires.index.shaped.rows_are
    (filled_exits g (HoldsFact g c.args.words.now) c.args.part c.refill.new.self filled.filling filled.down) c.read_off.ensures

pub returns-clause-room : goal.returns-clause-room
returns-clause-room c = c.refill.ensures.shape

pub returns-clause-filled : goal.returns-clause-filled
returns-clause-filled c = c.refill.ensures.filled
