use Rattle.std.proofs.Common.{◌≡◌, ◌<◌, ◌+◌, ◌-◌, length, get_or, refl, sym, ap, ◌∙◌, arith}
use Rattle.std.proofs.lemmas.List.{get_or_read}
use Rattle.c_language.specs.declared.expr_type.ExprType.{ExprType}
use Rattle.c_memory.specs.declared.layouts.zeros.Waiting.{Waiting}
use Rattle.c_memory.proofs.ZeroLemmas.{member_zeros_wait, member_turns_wait}
use Rattle.c_memory.proofs.layouts.zeros.add_all.Goals as goal

pub loop-number-preserved : goal.loop-number-preserved
loop-number-preserved c =
    let ms = c.args.members.now in
    let k = c.loop-number.number - 1 in
    let one : k + 1 ≡ c.loop-number.number = omega (arith, c.loop-number-test.true) in
    let within = c.loop-number.invariant.within in
    let low : k < length ms = omega (arith, one, within) in
    let m = c.index-members-number.result in
    let again = c.index-members-number-in-loop-number.result in
    let same : again ≡ m = get_or_read ms k again low c.index-members-number-in-loop-number.is m ∙ sym c.index-members-number.is in
    let w : Waiting = record { times = 1; layers = c.as_slice.result; base = (get_or ms k again).base; limit = c.args.limit } in
    record {
      cells = λ structs.
          member_zeros_wait structs ms k c.loop-number.number m w c.loop-number.waiting.items c.push.new.self.items c.args.waiting.now.items one within
          c.index-members-number.is refl (c.as_slice.ensures ∙ ap (λ (t : ExprType). t.layers) (sym c.index-members-number.is)) (ap (λ (t : ExprType). t.base) (sym c.index-members-number-in-loop-number.is ∙ same)) (c.loop-number.invariant.cells structs) c.in_ok-push.ensures.items;
      turns = λ structs.
          member_turns_wait structs ms k c.loop-number.number m w c.loop-number.waiting.items c.push.new.self.items c.args.waiting.now.items one within
          c.index-members-number.is refl (c.as_slice.ensures ∙ ap (λ (t : ExprType). t.layers) (sym c.index-members-number.is)) (ap (λ (t : ExprType). t.base) (sym c.index-members-number-in-loop-number.is ∙ same)) (c.loop-number.invariant.turns structs) c.in_ok-push.ensures.items;
      within = omega (arith, one, within);
    }
