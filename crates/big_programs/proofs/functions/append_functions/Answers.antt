use Rattle.big_programs.proofs.Rows.{function_turn, state_turn}
use Rattle.big_programs.proofs.functions.append_functions.Goals as goal

pub loop-earlier-preserved : goal.loop-earlier-preserved
loop-earlier-preserved c =
    let x = c.args.generator.now.state in
    let n = c.loop-earlier.earlier in (
      function_turn x n c.loop-earlier.generator.state c.args.text.now c.loop-earlier.text c.append_function.new.text c.draw-choices.result c.loop-earlier.invariant.0 c.loop-earlier.invariant.1 c.draw-choices.ensures.choices c.in_ok-append_function.ensures,
      state_turn x n c.loop-earlier.generator.state c.draw-choices.new.generator.state c.loop-earlier.invariant.1 c.draw-choices.ensures.state,
    )
