use Rattle.std.proofs.Common.{rules}
use Rattle.c_memory.proofs.CountLemmas.{array_turn}
use Rattle.c_memory.proofs.layouts.+count.Goals as goal

pub returns-in-Some-Array-default : goal.returns-in-Some-Array-default
returns-in-Some-Array-default t c = λ known a.
    array_turn known c.args.layers.now c.in-Some-Array-default.inner.now c.in-Some-Array-default.n c.args.base c.count.result c.saturating_mul.result (search rules)
    c.saturating_mul.ensures (c.count.ensures known a)
