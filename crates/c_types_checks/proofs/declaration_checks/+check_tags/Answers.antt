use Rattle.c_types_base.specs.Tables.{scope_of}
use Rattle.c_types_checks.specs.DeclarationChecks.{check_tag}
use Rattle.c_types_checks.proofs.UseLemmas.{tag_alone}
use Rattle.c_types_checks.proofs.declaration_checks.+check_tags.Goals as goal

pub returns-in-Struct : goal.returns-in-Struct
returns-in-Struct t c =
    tag_alone (check_tag c.args.tables.now.raw.now (scope_of c.args.tables.now)) c.args.shape.now _ c.bytes.result.now c.check_one_tag.result c.in-Struct.is c.bytes.ensures c.check_one_tag.ensures
