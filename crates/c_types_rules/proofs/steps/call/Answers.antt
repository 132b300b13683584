use Rattle.c_language.specs.Phrases as phrases
use Rattle.c_types_checks.specs.Stands.{stand_of}
use Rattle.c_types_base.specs.Stretches.{of_target, a_statement}
use Rattle.c_types_rules.proofs.WalkSteps.{two}
use Rattle.c_types_rules.proofs.steps.call.Goals as goal

pub returns : goal.returns
returns c =
    two (of_target c.args.line (stand_of c.args.stand) c.args.to.now) (a_statement c.args.line (phrases.Calls (stand_of c.args.stand) c.args.to.now c.args.function.now c.args.args.now)) c.args.tables.now c.target.new.tables c.number_on.new.tables c.number_on.result
    c.in_ok-target.ensures (c.number_on.ensures (phrases.Calls (stand_of c.args.stand) c.args.to.now c.args.function.now c.args.args.now) c.check_call-verdict.ensures)
