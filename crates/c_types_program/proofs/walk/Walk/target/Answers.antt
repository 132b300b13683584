use Rattle.c_types_program.proofs.SimpleForms.{target_fresh, target_typed, target_shaped}
use Rattle.c_types_program.proofs.walk.Walk.target.Goals as goal

pub declare-requires-clause-fresh : goal.declare-requires-clause-fresh
declare-requires-clause-fresh c = target_fresh c.args.self.now c.requires.right c.args.line c.args.target.now c.in-Declared.var c.in-Declared.is c.requires.fits

pub declare-requires-clause-typed : goal.declare-requires-clause-typed
declare-requires-clause-typed c = target_typed c.args.self.now c.requires.right c.args.line c.args.target.now c.in-Declared.var c.in-Declared.is c.requires.fits

pub declare-requires-clause-shaped : goal.declare-requires-clause-shaped
declare-requires-clause-shaped c = target_shaped c.args.self.now c.requires.right c.args.line c.args.target.now c.in-Declared.var c.in-Declared.is c.requires.fits
