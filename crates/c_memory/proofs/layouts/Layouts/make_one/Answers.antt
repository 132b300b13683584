use Rattle.std.proofs.Common.{rules, ◌++◌, List, Option, refl, ap}
use Rattle.c_meaning.specs.declared.value.Value.{Value}
use Rattle.c_memory.specs.declared.layouts.zeros.Waiting.{Waiting}
use Rattle.c_memory.proofs.ZeroLemmas.{array_waits, array_turns}
use Rattle.c_memory.proofs.layouts.Layouts.make_one.Goals as goal

pub returns-in_ok-push-in-Some-Array-default-clause-cells : goal.returns-in_ok-push-in-Some-Array-default-clause-cells
returns-in_ok-push-in-Some-Array-default-clause-cells c =
    let w : Waiting = record { times = c.in-Some-Array-default.length; layers = c.in-Some-Array-default.inner; base = c.args.next.base; limit = c.args.next.limit } in
    ap (λ (os : List (Option Value)). c.args.made.now.items ++ os)
    (array_waits c.args.self.now c.args.next w c.in-Some-Array-default.length c.args.waiting.now.items c.push-in-Some-Array-default.new.self.items (search rules) refl refl refl
    c.in_ok-push-in-Some-Array-default.ensures.items)

pub returns-in_ok-push-in-Some-Array-default-clause-turns : goal.returns-in_ok-push-in-Some-Array-default-clause-turns
returns-in_ok-push-in-Some-Array-default-clause-turns c =
    let w : Waiting = record { times = c.in-Some-Array-default.length; layers = c.in-Some-Array-default.inner; base = c.args.next.base; limit = c.args.next.limit } in
    array_turns c.args.self.now c.args.next w c.in-Some-Array-default.length c.args.waiting.now.items c.push-in-Some-Array-default.new.self.items (search rules) refl refl refl
    c.in_ok-push-in-Some-Array-default.ensures.items
