use Rattle.std.proofs.Common.{arith}
use Rattle.bit_rows.proofs.JoinLemmas.{part_joined}
use Rattle.bit_rows.proofs.parts.join_at.Goals as goal

pub returns-clause-joined : goal.returns-clause-joined
returns-clause-joined c = part_joined c.args.at _ c.args.words.now c.join.new.to c.args.from.now (omega arith) (omega (arith, c.requires)) c.join.ensures.joined
