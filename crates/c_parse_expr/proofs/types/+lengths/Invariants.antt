use Rattle.c_parse_expr.proofs.types.+lengths.Given as goal

abbrev pub decreases-lengths : goal.decreases-lengths
decreases-lengths l = l.depth
