use Rattle.std.proofs.Common.{◌≡◌, ◌∙◌, sym, ap, ◌-ℤ◌, ◌*ℤ◌, Some, int_rem}
use Rattle.std.proofs.lemmas.Int.{to_z-of_z, rem_is}
use Rattle.std.specs.Option.{option_map}
use Rattle.std.specs.Int.{w128}
use Rattle.c_arith.specs.Operators.{quotient, binary}
use Rattle.c_arith.proofs.OperatorLaws.{LiesIn-int_rem, remainder-is}
use Rattle.c_arith.proofs.Machine.{SFits-int_div, bits_positive, quotient-Some}
use Rattle.c_arith.proofs.operators.remainder.Goals as goal

-- the quotient at the operands themselves, and not at what they were cast to
there : (c : goal.In_ok-_quotient) → Some c.in_ok-_quotient._quotient ≡ quotient c.args.t c.args.a c.args.b
there c = rw (to_z-of_z w128 c.args.a c.ranges.a, to_z-of_z w128 c.args.b c.ranges.b) at c.in_ok-_quotient.ensures.value

pub nonzero_rem-result : goal.nonzero_rem-result
nonzero_rem-result c =
    let q = quotient-Some c.args.t c.args.a c.args.b c.in_ok-_quotient._quotient (there c) in (
      bits_positive c.args.b c.ranges.b q.0,
      rw (to_z-of_z w128 c.args.a c.ranges.a, to_z-of_z w128 c.args.b c.ranges.b) (SFits-int_div c.args.t c.args.a c.args.b c.requires),
    )

pub returns-clause-value : goal.returns-clause-value
unfolding binary
returns-clause-value c =
    let q = quotient-Some c.args.t c.args.a c.args.b c.in_ok-_quotient._quotient (there c) in
    let exact = rem_is w128 c.args.a c.args.b c.ranges.a c.ranges.b in
    let left : c.args.a -ℤ (c.in_ok-_quotient._quotient *ℤ c.args.b) ≡ int_rem c.args.a c.args.b = rw q.1 (remainder-is c.args.a c.args.b) in
    ap Some (exact ∙ sym left) ∙ ap (option_map (λ q. c.args.a -ℤ (q *ℤ c.args.b))) (there c)

pub returns-clause-in_type : goal.returns-clause-in_type
returns-clause-in_type c = rw (rem_is w128 c.args.a c.args.b c.ranges.a c.ranges.b) (LiesIn-int_rem c.args.t c.args.a c.args.b c.requires)
