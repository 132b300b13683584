use Rattle.c_tree.specs.declared.raw.program.RawParam.{RawParam}
use Rattle.c_language.specs.DeclaredTypes.{written_type}
use Rattle.c_types_checks.proofs.AgreeLemmas.{unequal}
use Rattle.c_types_checks.proofs.head_checks.same_parameters.Goals as goal

pub returns-then-left-right : goal.returns-then-left-right
returns-then-left-right c = unequal (λ (p : RawParam). written_type c.args.tables.now.raw.now p.shape) c.args.left.now c.args.right.now c.if-left-right.true
