use Rattle.std.proofs.Common.{arith}
use Rattle.reaching_defs.proofs.HeldLemmas.{passed_all}
use Rattle.reaching_defs.proofs.definition.pass.Goals as goal

pub returns-clause-exact : goal.returns-clause-exact
returns-clause-exact c = passed_all c.args.held.now c.args.words.now c.args.killed.now c.loop-j.j c.loop-j.passed c.loop-j.invariant (omega arith)
