use Rattle.std.specs.Prelude.{nat_lt}
use Rattle.c_language.specs.Constants.{digit_value}
use Rattle.c_types_base.proofs.LiteralLemmas.{IsAhead}
use Rattle.c_types_base.proofs.literal.leading_digits.Given as goal

abbrev pub invariant-loop-i : goal.invariant-loop-i
invariant-loop-i l = IsAhead (λ b. nat_lt (digit_value b) l.n) l.bytes l.i
