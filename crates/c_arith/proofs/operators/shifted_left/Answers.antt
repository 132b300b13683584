use Rattle.std.proofs.Common.{◌≡◌, ◌∙◌, ap, ℕ, ◌*◌, ◌^◌, ◌%◌, ◌<◌, ℤ, pos, negsuc, ◌≤ℤ◌, arith, Some}
use Rattle.std.proofs.lemmas.Int.{ints, to_z-of_z}
use Rattle.std.specs.Option.{option_and_then}
use Rattle.std.specs.Int.{w128, cast_signed, cast_unsigned}
use Rattle.c_arith.specs.declared.int_type.IntType.{IntType}
use Rattle.c_arith.specs.IntType.{width, LiesIn}
use Rattle.c_arith.specs.Operators.{arithmetic, shift_amount, shift_left, binary}
use Rattle.c_arith.proofs.Machine.{shift_amount-Some, shl-is}
use Rattle.c_arith.proofs.operators.shifted_left.Goals as goal

-- what the machine's shift leaves of a value that is not negative
exact : (t : IntType) (a : ℤ) (k : ℕ) → LiesIn t a → k < width t → pos 0 ≤ℤ a → arithmetic t (cast_signed w128 (cast_unsigned w128 a * 2 ^ k % 2 ^ 128)) ≡ shift_left t a k
exact t (pos a) k h p s = ap (arithmetic t) (shl-is t a k h p)
exact t (negsuc a) k h p s = absurd (omega (arith, ints))

pub returns-else-a-lt0-clause-value : goal.returns-else-a-lt0-clause-value
unfolding binary
returns-else-a-lt0-clause-value c =
    let there : Some c.in_ok-amount.amount ≡ shift_amount c.args.t c.args.b = rw (to_z-of_z w128 c.args.b c.ranges.b) at c.in_ok-amount.ensures in
    let below = shift_amount-Some c.args.t c.args.b c.in_ok-amount.amount there in
    let sign : pos 0 ≤ℤ c.args.a = omega (arith, ints) in
    c.arithmetic.ensures.value ∙ exact c.args.t c.args.a c.in_ok-amount.amount c.requires below sign ∙ ap (option_and_then (shift_left c.args.t c.args.a)) there
