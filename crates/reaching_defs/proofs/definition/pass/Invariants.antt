use Rattle.reaching_defs.proofs.HeldLemmas.{IsPassed}
use Rattle.reaching_defs.proofs.definition.pass.Given as goal

abbrev pub invariant-loop-j : goal.invariant-loop-j
invariant-loop-j l = IsPassed l.held l.words l.killed l.j l.passed
