use Rattle.std.proofs.Common.{◌≡◌, ◌∷◌, [], max, arith}
use Rattle.std.specs.Int.{bit_at}
use Rattle.std.proofs.lemmas.Nat.Bits.{bit_at_or, bit_at-lt}
use Rattle.crew.proofs.BitLemmas.{bit_is_fact, low_place}
use Rattle.crew.proofs.tests.bits_are_answered_once_and_seen_by_all.Goals as goal

pub publish-requires-clause-may_put : goal.publish-requires-clause-may_put
publish-requires-clause-may_put g c = λ t i is new. bit_is_fact (0 ∷ 0 ∷ 0 ∷ 5 ∷ []) 3 i (low_place 5 i (omega arith) new) new

-- the bits of 4 are bits of 5
pub publish-requires-2-clause-may_put : goal.publish-requires-2-clause-may_put
publish-requires-2-clause-may_put g c = λ t i is new.
    let both : bit_at 5 i ≡ max (bit_at 4 i) (bit_at 1 i) = bit_at_or 4 1 i in
    let one : bit_at 5 i ≡ 1 = omega (arith, both, bit_at-lt 1 i) in
    bit_is_fact (0 ∷ 0 ∷ 0 ∷ 5 ∷ []) 3 i (low_place 5 i (omega arith) one) one
