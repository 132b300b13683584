use Rattle.std.proofs.Common.{arith}
use Rattle.bit_rows.proofs.VectorLemmas.{union_from_words}
use Rattle.bit_rows.proofs.kernel.join_vectors.Goals as goal

pub returns-clause-joined : goal.returns-clause-joined
returns-clause-joined c = union_from_words c.args.to.now c.args.from.now c.loop-at.to c.requires.same_length (omega arith) (λ k h. c.loop-at.invariant.joined k (omega arith))
