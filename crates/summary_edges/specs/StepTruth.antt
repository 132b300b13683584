-- What one step gives from true facts is true, bit by bit: the truth of a board asks for it.
use Rattle.std.proofs.Common.{ℕ, List, subst}
use Rattle.dep_model.specs.declared.graph.Graph.{Graph}
use Rattle.dep_model.specs.Facts.{HoldsFact, IsTrueFact}
use Rattle.matched_paths.specs.Laws.{AreTrue}
use Rattle.matched_paths.proofs.FactLaws.{step_keeps_truth}
use Rattle.summary_edges.specs.FactMachine.{BitsAreApart, IsTrueBit, IsStepBit, HoldTrueBits}

-- where each bit is that of a true fact, the facts are true
pub bits_true : (g : Graph) → BitsAreApart g → (ws : List ℕ) → HoldTrueBits g ws → AreTrue g (HoldsFact g ws)
bits_true g apart ws all a b h =
    let t = all h.bit h.set in
    let one = apart t.from t.to a b h.bit t.is_bit h.is_bit in
    subst (λ y. IsTrueFact g a y) one.1 (subst (λ x. IsTrueFact g x t.to) one.0 t.fact)

-- the bits of a step from true facts are those of true facts
pub sound_bits : (g : Graph) → BitsAreApart g → (known : List ℕ) → HoldTrueBits g known → (f n : ℕ) → IsStepBit g f known n → IsTrueBit g n
sound_bits g apart known all f n s = record { from = s.from; to = s.to; is_bit = s.is_bit; fact = step_keeps_truth g f (HoldsFact g known) (bits_true g apart known all) s.from s.to s.given }
