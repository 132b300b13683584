use Rattle.c_types_program.proofs.FunctionSteps.{parameter_fresh, parameter_typed, parameter_shaped}
use Rattle.c_types_program.proofs.walk.Walk.parameter.Goals as goal

pub declare-requires-clause-fresh : goal.declare-requires-clause-fresh
declare-requires-clause-fresh c = parameter_fresh c.args.self.now c.args.parameter.now c.in-Some.name c.in-Some.is c.requires.fits

pub declare-requires-clause-typed : goal.declare-requires-clause-typed
declare-requires-clause-typed c = parameter_typed c.args.self.now c.args.parameter.now c.in-Some.name c.in-Some.is c.requires.fits

pub declare-requires-clause-shaped : goal.declare-requires-clause-shaped
declare-requires-clause-shaped c = parameter_shaped c.args.self.now c.args.parameter.now c.in-Some.name c.in-Some.is c.requires.fits
