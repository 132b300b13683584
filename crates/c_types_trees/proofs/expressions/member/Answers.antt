use Rattle.std.proofs.Common.{Some, sym, ap, ◌∙◌}
use Rattle.c_types_base.specs.Tables.{scope_of}
use Rattle.c_types_trees.proofs.KeptLemmas.{member_tree_is}
use Rattle.c_types_trees.proofs.expressions.member.Goals as goal

pub returns : goal.returns
returns c =
    member_tree_is c.args.tables.now.raw.now (scope_of c.args.tables.now) c.args.a.now c.args.name.now c.in_ok-new.field-0 c.in_ok-id.id
    (c.requires.object ∙ ap Some (sym c.in_ok-new.ensures)) c.in_ok-id.ensures
