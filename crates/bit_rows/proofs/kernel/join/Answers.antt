use Rattle.std.proofs.Common.{◌*◌, ◌/◌, length}
use Rattle.bit_rows.proofs.VectorLemmas.{union_from_parts}
use Rattle.bit_rows.proofs.kernel.join.Goals as goal

pub returns-clause-joined : goal.returns-clause-joined
returns-clause-joined c =
    let to = c.split_at_mut-to_vectors.ensures in
    let from = c.split_at.ensures in
    union_from_parts (length c.args.to.now / 8 * 8) c.args.to.now c.args.from.now _ _ _ _ _ _ c.requires to.front to.back from.front from.back c.join_vectors-vectors_changed.ensures.joined c.join_tail-tail_changed.ensures.joined
