use Rattle.std.proofs.Common.{ℕ, ◌^◌, ℤ, pos, negsuc, SFits, arith, Some}
use Rattle.std.proofs.lemmas.Int.{to_z-of_z}
use Rattle.std.specs.Int.{w128}
use lib.Signed.{shr_z, mag_shr}
use Rattle.c_arith.specs.declared.int_type.IntType.{IntType}
use Rattle.c_arith.specs.IntType.{LiesIn}
use Rattle.c_arith.proofs.OperatorLaws.{LiesIn-shr}
use Rattle.c_arith.proofs.operators.shifted_right.Goals as goal

-- a value that is divided by a power of two and rounded down stays in its type
kept : (t : IntType) (a : ℤ) (k : ℕ) → LiesIn t a → LiesIn t (shr_z a (2 ^ k))
kept t (pos a) k h = LiesIn-shr t (pos a) (Some k) h
kept t (negsuc a) k h = LiesIn-shr t (negsuc a) (Some k) h

pub returns-clause-in_type : goal.returns-clause-in_type
returns-clause-in_type c =
    let shifted = shr_z c.args.a (2 ^ c.in_ok-amount.amount) in
    let fits : SFits w128 shifted = record { sfits = omega (arith, mag_shr c.args.a (2 ^ c.in_ok-amount.amount), c.ranges.a.sfits) } in
    rw (to_z-of_z w128 c.args.a c.ranges.a, to_z-of_z w128 shifted fits) (kept c.args.t c.args.a c.in_ok-amount.amount c.requires)
