use Rattle.std.proofs.Common.{refl, sym, ap, ◌∙◌, subst}
use Rattle.std.specs.Option.{option_copied}
use Rattle.c_machine.specs.declared.runs.Turn.{Turn}
use Rattle.c_machine.specs.Progress.{Progress, meant_with, turn_of, IsRight}
use Rattle.c_machine.proofs.ProgressLemmas.{stepped, rested}
use Rattle.c_machine.proofs.MachineLemmas.{not_ended, not_undefined}
use Rattle.c_machine.proofs.machine.Machine.step.Goals as goal

pub invariant_of-self-in-Going : goal.invariant_of-self-in-Going
invariant_of-self-in-Going c =
    let i = c.self.inside in
    let m : Progress = record { program = i.program.now; input = i.input.now; watched = option_copied i.watched; acts = i.acts; failed = i.failed } in
    let told = c.in_ok-move_to-in-Going.ensures in
    (stepped m c.in_ok-self-inside-in-Going.field-0 i.run c.act_and_settle.new.self (record c.act_and_settle.new.self { trace = c.move_to.new.self }) i.events.items _ i.output.items _ c.if-self.false
    (subst (λ (t : Turn). IsRight m i.events.items i.output.items t i.run) c.in-Going.is c.self.invariant)
    (λ x at_. c.in_ok-self-inside-in-Going.ensures _ _ x at_) refl told.events told.output told.watched told.none_told told.none_put).0

pub returns-in_ok-move_to-in-Going-clause-answer : goal.returns-in_ok-move_to-in-Going-clause-answer
returns-in_ok-move_to-in-Going-clause-answer c =
    let i = c.self.inside in
    let m : Progress = record { program = i.program.now; input = i.input.now; watched = option_copied i.watched; acts = i.acts; failed = i.failed } in
    let told = c.in_ok-move_to-in-Going.ensures in
    (stepped m c.in_ok-self-inside-in-Going.field-0 i.run c.act_and_settle.new.self (record c.act_and_settle.new.self { trace = c.move_to.new.self }) i.events.items _ i.output.items _ c.if-self.false
    (subst (λ (t : Turn). IsRight m i.events.items i.output.items t i.run) c.in-Going.is c.self.invariant)
    (λ x at_. c.in_ok-self-inside-in-Going.ensures _ _ x at_) refl told.events told.output told.watched told.none_told told.none_put).1
    ∙ ap (λ (q : Progress). turn_of (meant_with q 1)) c.self.view_is

pub invariant_of-self-in-Ended : goal.invariant_of-self-in-Ended
invariant_of-self-in-Ended c =
    let i = c.self.inside in
    let m : Progress = record { program = i.program.now; input = i.input.now; watched = option_copied i.watched; acts = i.acts; failed = i.failed } in
    (rested m 1 i.turn i.run i.events.items i.output.items c.if-self.false (λ e. not_ended (sym c.in-Ended.is ∙ e)) c.self.invariant).0

pub returns-in-Ended-clause-answer : goal.returns-in-Ended-clause-answer
returns-in-Ended-clause-answer c =
    let i = c.self.inside in
    let m : Progress = record { program = i.program.now; input = i.input.now; watched = option_copied i.watched; acts = i.acts; failed = i.failed } in
    sym c.in-Ended.is
    ∙ (rested m 1 i.turn i.run i.events.items i.output.items c.if-self.false (λ e. not_ended (sym c.in-Ended.is ∙ e)) c.self.invariant).1
    ∙ ap (λ (q : Progress). turn_of (meant_with q 1)) c.self.view_is

pub invariant_of-self-in-Undefined : goal.invariant_of-self-in-Undefined
invariant_of-self-in-Undefined c =
    let i = c.self.inside in
    let m : Progress = record { program = i.program.now; input = i.input.now; watched = option_copied i.watched; acts = i.acts; failed = i.failed } in
    (rested m 1 i.turn i.run i.events.items i.output.items c.if-self.false (λ e. not_undefined c.in-Undefined.statement (sym c.in-Undefined.is ∙ e)) c.self.invariant).0

pub returns-in-Undefined-clause-answer : goal.returns-in-Undefined-clause-answer
returns-in-Undefined-clause-answer c =
    let i = c.self.inside in
    let m : Progress = record { program = i.program.now; input = i.input.now; watched = option_copied i.watched; acts = i.acts; failed = i.failed } in
    sym c.in-Undefined.is
    ∙ (rested m 1 i.turn i.run i.events.items i.output.items c.if-self.false (λ e. not_undefined c.in-Undefined.statement (sym c.in-Undefined.is ∙ e)) c.self.invariant).1
    ∙ ap (λ (q : Progress). turn_of (meant_with q 1)) c.self.view_is
