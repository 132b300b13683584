use Rattle.std.proofs.Common.{◌≡◌, [], ◌∷◌, subst, sym}
use Rattle.c_meaning.specs.Meaning.{meaning}
use Rattle.run_text.specs.Answers.{EndsWith}
use Rattle.run_text.specs.Lines.{trace_words}
use Rattle.slicer_top.specs.Runs.{IsRunFault}
use Rattle.slicer_top.specs.Slices.{IsOneText}
use Rattle.slicer_top.specs.declared.refusal.Refusal.TheVariants.{NoMemory}
use Rattle.slicer_top.proofs.Making.{map_result}
use Rattle.slicer_top.proofs.running.traced.Goals as goal

pub returns-in-Ok : goal.returns-in-Ok
returns-in-Ok c =
    map_result (λ t. t.items ≡ c.in-Ok.text ∷ [])
    (λ t. IsOneText (EndsWith (trace_words c.args.program.now c.args.lines.now) (meaning c.args.steps c.args.program.now c.args.input.now)) t.items)
    (λ refusal. refusal ≡ NoMemory) (IsRunFault c.args.program.now (meaning c.args.steps c.args.program.now c.args.input.now))
    (λ t is. subst (IsOneText (EndsWith (trace_words c.args.program.now c.args.lines.now) (meaning c.args.steps c.args.program.now c.args.input.now))) (sym is) c.in-Ok.ensures.ended)
    (λ refusal is. subst (IsRunFault c.args.program.now (meaning c.args.steps c.args.program.now c.args.input.now)) (sym is) tt) c.one.result c.one.ensures

pub returns-in-Err : goal.returns-in-Err
returns-in-Err c = c.refusal_of.ensures c.args.steps c.args.input.now c.in-Err.ensures.fault
