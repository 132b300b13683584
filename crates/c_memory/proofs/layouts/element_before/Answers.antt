use Rattle.std.proofs.Common.{rules}
use Rattle.c_memory.proofs.CountLemmas.{offset_turn}
use Rattle.c_memory.proofs.layouts.element_before.Goals as goal

pub returns-then-index-length : goal.returns-then-index-length
returns-then-index-length c = λ known a.
    offset_turn known c.args.layers.now c.in-Some-Array-default.inner.now c.args.index c.in-Some-Array-default.length c.args.base c.count.result c.saturating_mul.result (search rules)
    c.if-index-length.true c.saturating_mul.ensures (c.count.ensures known a)
