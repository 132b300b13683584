use Rattle.std.proofs.Common.{◌∷◌, [], ◌++◌, List, Option, refl, ap, ◌∙◌}
use Rattle.c_meaning.specs.declared.value.Value.{Value}
use Rattle.c_memory.specs.Zeros.{all_zeros}
use Rattle.c_memory.specs.declared.layouts.zeros.Waiting.{Waiting}
use Rattle.c_memory.proofs.ZeroLemmas.{first_waits, made_turn, fewer_turn}
use Rattle.c_memory.proofs.layouts.Layouts.zeros.Goals as goal

pub loop-next-init : goal.loop-next-init
loop-next-init c =
    let w : Waiting = record { times = 1; layers = c.as_slice.result; base = c.args.shape.now.base; limit = c.len.result } in
    ap (λ (os : List (Option Value)). os ++ all_zeros c.args.self.now c.push.new.self.items) c.in_ok-made.ensures.items
    ∙ first_waits c.args.self.now c.self.inside.members w c.push.new.self.items c.args.shape.now c.len.result c.self.view_is c.len.ensures refl refl c.as_slice.ensures refl
    (c.in_ok-push.ensures.items ∙ ap (λ (ws : List Waiting). ws ++ w ∷ []) c.new-waiting.ensures.items)

pub loop-next-smaller : goal.loop-next-smaller
loop-next-smaller c = fewer_turn c.args.self.now c.loop-next.waiting.items c.pop.new.self.items c.make_next.new.waiting.items c.in-Some.next c.in-Some.ensures.items c.in_ok-make_next.ensures.fewer

pub loop-next-preserved : goal.loop-next-preserved
loop-next-preserved c =
    made_turn c.args.self.now c.loop-next.waiting.items c.pop.new.self.items c.make_next.new.waiting.items c.in-Some.next c.loop-next.made.items c.make_next.new.made.items _
    c.in-Some.ensures.items c.in_ok-make_next.ensures.cells c.loop-next.invariant
