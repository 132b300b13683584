use Rattle.std.proofs.Common.{◌<◌, ◌-◌, refl, arith}
use Rattle.c_memory.specs.declared.layouts.zeros.Waiting.{Waiting}
use Rattle.c_memory.proofs.ZeroLemmas.{next_made, next_fewer}
use Rattle.c_memory.proofs.layouts.Layouts.make_next.Goals as goal

pub returns-clause-cells : goal.returns-clause-cells
returns-clause-cells c =
    let next = c.args.next in
    let test = c.if-next-eq0.false in
    let some : 0 < next.times = omega (arith, test) in
    let again : Waiting = record { times = next.times - 1; layers = next.layers; base = next.base; limit = next.limit } in
    next_made c.args.self.now c.args.waiting.now.items c.push.new.self.items c.make_one.new.waiting.items next again c.args.made.now.items c.make_one.new.made.items some
    c.in_ok-push.ensures.items refl refl refl refl c.in_ok-make_one.ensures.cells

pub returns-clause-fewer : goal.returns-clause-fewer
returns-clause-fewer c =
    let next = c.args.next in
    let test = c.if-next-eq0.false in
    let some : 0 < next.times = omega (arith, test) in
    let again : Waiting = record { times = next.times - 1; layers = next.layers; base = next.base; limit = next.limit } in
    next_fewer c.args.self.now c.args.waiting.now.items c.push.new.self.items c.make_one.new.waiting.items next again some
    c.in_ok-push.ensures.items refl refl refl refl c.in_ok-make_one.ensures.turns
