-- What an expression names: the locations that its object may be, or else those to which its value may point.
use Rattle.std.specs.Prelude.{if◌then◌else◌}
use Rattle.c_tree.specs.declared.expr.Expr.{Expr}
use Rattle.c_tree.specs.declared.program.Program.{Program}
use Rattle.dep_model.specs.Denoted.{Places, TargetsOf, Denoted, denoted}

abbrev pub named_by : Denoted → Places
named_by d = if d.form.is_place then d.places else d.points

module _ (p : Program) (points : TargetsOf) where
  abbrev pub named : Expr → Places
  named e = named_by (denoted p points e)
