use Rattle.slice_engine.proofs.slicing.kept_at.Goals as goal

pub returns-clause-kept : goal.returns-clause-kept
returns-clause-kept c = record {
  reached = c.in_ok-set.set;
  are_members = c.in_ok-set.ensures.members;
  completes = λ main entry. c.close_up.ensures.completes c.args.p.now c.args.graph.now main c.requires.closes entry;
}
