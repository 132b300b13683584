use Rattle.std.specs.Prelude.{None}
use Rattle.c_tree.specs.declared.raw.statement.RawTarget.TheVariants as target
use Rattle.c_language.specs.Phrases.{Allocates}
use Rattle.c_scope_laws.specs.Agreement.{measured}
use Rattle.c_scope_laws.proofs.StatementAgreement.{part_covers, amounts_same}
use Rattle.c_scope_laws.proofs.amounts_agree.Goals as goal

pub returns : goal.returns
returns c = λ f raw other scope next n like agree. amounts_same f _ raw other scope next like agree n (part_covers (Allocates target.None None n) (λ x h. h)) (λ x closed c. measured c)
