use Rattle.std.proofs.Common.{◌-◌, arith}
use Rattle.c_parse_expr.proofs.TypeSound.{lengths_sound}
use Rattle.c_parse_expr.proofs.types.empty_length.Goals as goal

pub listed-requires : goal.listed-requires
listed-requires c = omega (arith, (lengths_sound (c.args.depth - 1) _ _ _ _ c.in_ok-inner.ensures).low)
