use Rattle.std.proofs.Common.{◌≡◌, ◌+◌, ◌++◌, ℕ, List, Option, OnOk, sym, ap, ◌∙◌, subst, arith}
use Rattle.std.specs.Option.{option_copied}
use Rattle.c_meaning.specs.declared.value.Value.{Value}
use Rattle.c_memory.specs.Zeros.{all_zeros, all_turns}
use Rattle.c_memory.proofs.ZeroLemmas.{struct_found, struct_missing}
use Rattle.c_memory.proofs.layouts.Layouts.add_members.Goals as goal

pub returns-in-Some-clause-cells : goal.returns-in-Some-clause-cells
returns-in-Some-clause-cells c =
    let own = struct_found c.args.self.now c.self.inside.members c.args.limit c.args.s c.in-Some.members.now c.as_slice.result.now c.if-s-limit.false c.self.view_is
    (sym c.get.ensures.value ∙ ap option_copied c.in-Some.is) c.as_slice.ensures in
    subst (λ (os : List (Option Value)). OnOk c.add_all.result (all_zeros c.args.self.now c.add_all.new.waiting.items ≡ os ++ all_zeros c.args.self.now c.args.waiting.now.items)) own.zeros
    (c.add_all.ensures.cells c.args.self.now)

pub returns-in-Some-clause-turns : goal.returns-in-Some-clause-turns
returns-in-Some-clause-turns c =
    let own = struct_found c.args.self.now c.self.inside.members c.args.limit c.args.s c.in-Some.members.now c.as_slice.result.now c.if-s-limit.false c.self.view_is
    (sym c.get.ensures.value ∙ ap option_copied c.in-Some.is) c.as_slice.ensures in
    subst (λ (n : ℕ). OnOk c.add_all.result (all_turns c.args.self.now c.add_all.new.waiting.items ≡ n + all_turns c.args.self.now c.args.waiting.now.items)) own.turns
    (c.add_all.ensures.turns c.args.self.now)

pub returns-in-None-clause-cells : goal.returns-in-None-clause-cells
returns-in-None-clause-cells c =
    let own = struct_missing c.args.self.now c.self.inside.members c.args.limit c.args.s c.if-s-limit.false c.self.view_is
    (sym c.get.ensures.value ∙ ap option_copied c.in-None.is) in
    ap (λ (os : List (Option Value)). os ++ all_zeros c.args.self.now c.args.waiting.now.items) own.zeros

pub returns-in-None-clause-turns : goal.returns-in-None-clause-turns
returns-in-None-clause-turns c =
    let own = struct_missing c.args.self.now c.self.inside.members c.args.limit c.args.s c.if-s-limit.false c.self.view_is
    (sym c.get.ensures.value ∙ ap option_copied c.in-None.is) in
    let e = own.turns in omega (arith, e)
