use Rattle.std.proofs.Common.{◌≡◌, ◌+◌, drop, option_map}
use Rattle.c_lex.specs.Scanning.{literal_len}
use Rattle.c_lex.specs.declared.literal.Stage.TheVariants.{Inside}
use Rattle.c_lex.proofs.literal.literal_len.Given as goal

abbrev pub invariant-loop-i : goal.invariant-loop-i
invariant-loop-i l = literal_len Inside l.bytes ≡ option_map (λ n. l.i + n) (literal_len l.stage (drop l.i l.bytes))
