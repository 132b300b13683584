use Rattle.std.proofs.Common.{sym, ◌∙◌}
use Rattle.c_types_base.specs.Tables.{scope_of}
use Rattle.c_types_trees.proofs.KeptLemmas.{variable_there}
use Rattle.c_types_trees.proofs.expressions.variable.Goals as goal

pub unreachable-requires : goal.unreachable-requires
unreachable-requires c =
    variable_there c.args.tables.now.raw.now (scope_of c.args.tables.now) c.args.name.now c.requires (sym c.variable_number.ensures ∙ c.in-None.is)
