use Rattle.std.proofs.Common.{◌≡◌, sym, pos, ◌^◌, ◌-ℤ◌, ◌≤ℤ◌, ◌<ℤ◌, SFits, arith, subst, refl}
use Rattle.std.proofs.lemmas.Int.{ints, to_z-of_z}
use Rattle.std.specs.Int.{w128, int_rem_euclid}
use Rattle.c_arith.specs.IntType.{width, greatest, LiesIn, IsCongruent, convert}
use Rattle.c_arith.proofs.IntTypeLaws.{convert-LiesIn, convert-congruent, LiesIn-convert, convert-residue, convert-residue_above}
use Rattle.c_arith.proofs.int_type.convert.Goals as goal

pub returns-then-lies_in-clause-value : goal.returns-then-lies_in-clause-value
returns-then-lies_in-clause-value c =
    let back = to_z-of_z w128 c.args.v c.ranges.v in
    let inside : LiesIn c.args.to c.args.v = rw back at (c.if-lies_in.ensures.fact.0 refl) in
    rw back (sym (convert-LiesIn c.args.v c.args.to inside))

pub returns-then-residue-greatest-clause-value : goal.returns-then-residue-greatest-clause-value
returns-then-residue-greatest-clause-value c =
    let f = c.ranges.v in
    let fm : SFits w128 c.modulus.result = record { sfits = c.modulus.type_inv } in
    let fr : SFits w128 c.rem_euclid-residue.result = record { sfits = c.rem_euclid-residue.type_inv } in
    let back = to_z-of_z w128 c.args.v f in
    let value : c.rem_euclid-residue.result ≡ int_rem_euclid c.args.v (pos (2 ^ width c.args.to)) =
    rw (to_z-of_z w128 c.args.v f, to_z-of_z w128 c.modulus.result fm, c.modulus.ensures) at c.rem_euclid-residue.ensures.value in
    let below : c.rem_euclid-residue.result ≤ℤ greatest c.args.to = omega (arith, ints) in
    rw (to_z-of_z w128 c.rem_euclid-residue.result fr, value) (sym (convert-residue c.args.v c.args.to (rw value at below)))

pub returns-then-residue-greatest-clause-congruent : goal.returns-then-residue-greatest-clause-congruent
returns-then-residue-greatest-clause-congruent c =
    subst (λ z. IsCongruent (2 ^ width c.args.to) z c.args.v) (sym (returns-then-residue-greatest-clause-value c)) (convert-congruent c.args.v c.args.to)

pub returns-else-residue-greatest-clause-value : goal.returns-else-residue-greatest-clause-value
returns-else-residue-greatest-clause-value c =
    let fm : SFits w128 c.modulus.result = record { sfits = c.modulus.type_inv } in
    let value : c.rem_euclid-residue.result ≡ int_rem_euclid c.args.v (pos (2 ^ width c.args.to)) =
    rw (to_z-of_z w128 c.args.v c.ranges.v, to_z-of_z w128 c.modulus.result fm, c.modulus.ensures) at c.rem_euclid-residue.ensures.value in
    let above : greatest c.args.to <ℤ c.rem_euclid-residue.result = omega (arith, ints) in
    let is : convert c.args.v c.args.to ≡ c.rem_euclid-residue.result -ℤ pos (2 ^ width c.args.to) =
    rw value (convert-residue_above c.args.v c.args.to (rw value at above)) in
    omega (arith, ints)

pub returns-else-residue-greatest-clause-in_type : goal.returns-else-residue-greatest-clause-in_type
returns-else-residue-greatest-clause-in_type c =
    subst (LiesIn c.args.to) (sym (returns-else-residue-greatest-clause-value c)) (LiesIn-convert c.args.v c.args.to)

pub returns-else-residue-greatest-clause-congruent : goal.returns-else-residue-greatest-clause-congruent
returns-else-residue-greatest-clause-congruent c =
    subst (λ z. IsCongruent (2 ^ width c.args.to) z c.args.v) (sym (returns-else-residue-greatest-clause-value c)) (convert-congruent c.args.v c.args.to)
