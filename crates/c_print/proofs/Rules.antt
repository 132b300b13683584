-- The sets of equations that the printer's functions are proved by.
use Rattle.std.proofs.Common.{append_assoc, append-nil}
use Rattle.c_language.proofs.WordLemmas.{types_of as types, expressions_of as expressions}
use Rattle.c_print.proofs.FirstByte.{first_bytes as firsts, signs_of as signs}
use Rattle.c_print.proofs.Loops.{joined-commas}
use Rattle.c_print.proofs.StatementLines.{lines_of}
use Rattle.c_print.proofs.NotedLines.{noted_nothing}
use Rattle.c_print.proofs.PlacedLemmas.{placed_of as placed}

pub ruleset types_of = (types, append_assoc, append-nil)

pub ruleset first_bytes = firsts

pub ruleset signs_of = signs

pub ruleset expressions_of = (expressions, signs, append_assoc, append-nil)

pub ruleset lists_of = (joined-commas, append_assoc, append-nil)

pub ruleset texts_of = (append_assoc, append-nil)

pub ruleset loops_of = (append_assoc, append-nil)

pub ruleset statements_of = (lines_of, append_assoc, append-nil)

pub ruleset noted_of = (noted_nothing, append-nil)

pub ruleset placed_of = (placed, noted_nothing)
