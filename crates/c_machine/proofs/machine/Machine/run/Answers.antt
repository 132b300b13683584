use Rattle.std.proofs.Common.{◌≡◌, ◌+◌, ◌-◌, sym, ◌∙◌, arith}
use Rattle.c_machine.specs.declared.machine.Halt.TheVariants as halt
use Rattle.c_machine.specs.declared.runs.Turn.TheVariants as turn
use Rattle.c_machine.proofs.ProgressLemmas.{run_over, ended_halt, undefined_halt}
use Rattle.c_machine.proofs.MachineLemmas.{not_ended, not_undefined}
use Rattle.c_machine.proofs.machine.Machine.run.Goals as goal

pub returns-in-Ended-clause-answer : goal.returns-in-Ended-clause-answer
returns-in-Ended-clause-answer c =
    let test = c.loop-done-test.true in
    let left = c.args.budget - 1 - c.loop-done.done in
    let sum : c.loop-done.done + 1 + left ≡ c.args.budget = omega (arith, test) in
    (run_over c.args.self.now c.loop-done.self c.step.new.self c.skip.new.self c.loop-done.done c.args.budget left turn.Ended halt.Ended c.loop-done.invariant.done c.in_ok-step.ensures.done
    c.in_ok-skip-in-Ended.ensures.done sum (sym c.in-Ended.is ∙ c.in_ok-step.ensures.answer) not_ended ended_halt).0

pub returns-in-Undefined-clause-answer : goal.returns-in-Undefined-clause-answer
returns-in-Undefined-clause-answer c =
    let test = c.loop-done-test.true in
    let left = c.args.budget - 1 - c.loop-done.done in
    let sum : c.loop-done.done + 1 + left ≡ c.args.budget = omega (arith, test) in
    (run_over c.args.self.now c.loop-done.self c.step.new.self c.skip-in-Undefined.new.self c.loop-done.done c.args.budget left (turn.Undefined c.in-Undefined.statement) (halt.Undefined c.in-Undefined.statement) c.loop-done.invariant.done c.in_ok-step.ensures.done
    c.in_ok-skip-in-Undefined.ensures.done sum (sym c.in-Undefined.is ∙ c.in_ok-step.ensures.answer) (not_undefined c.in-Undefined.statement) (undefined_halt c.in-Undefined.statement)).0
