use Rattle.std.proofs.Common.{refl}
use Rattle.c_types_program.proofs.ItemForms.{prototype_defined, prototype_passes}
use Rattle.c_types_program.proofs.walk.Walk.prototype.Goals as goal

pub function_of-function-requires-clause-defined : goal.function_of-function-requires-clause-defined
function_of-function-requires-clause-defined c =
    prototype_defined c.args.self.now c.requires.right c.args.line c.args.head.now c.requires.fits c.bytes.result.now c.bytes.ensures

pub returns-clause-passes : goal.returns-clause-passes
returns-clause-passes c =
    prototype_passes c.args.self.now c.requires.right c.args.line c.args.head.now (record c.args.self.now { tables = c.declare_function.new.self }) c.bytes-2.result.now c.bytes-2.ensures
    c.in_ok-declare_function.ensures refl
