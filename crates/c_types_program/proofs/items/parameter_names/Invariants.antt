use Rattle.std.proofs.Common.{◌≡◌, ◌++◌, drop, map}
use Rattle.c_tree.specs.declared.raw.program.RawParam.{RawParam}
use Rattle.c_types_program.proofs.items.parameter_names.Given as goal

abbrev pub invariant-loop-param : goal.invariant-loop-param
invariant-loop-param l = l.names ++ map (λ (p : RawParam). p.name) (drop l.param-index l.params) ≡ map (λ (p : RawParam). p.name) l.params
