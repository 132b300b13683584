use Rattle.std.proofs.Common.{subst}
use Rattle.c_meaning.specs.Meaning.{meaning}
use Rattle.run_text.specs.Answers.{IsCause}
use Rattle.slicer_top.proofs.running.refusal_of.Goals as goal

pub returns-in-Undefined : goal.returns-in-Undefined
returns-in-Undefined c = λ steps input cause.
    let here = subst (IsCause (meaning steps c.args.program.now input)) c.in-Undefined.is cause in
    c.undefined_act.ensures steps input here.0 here.1
