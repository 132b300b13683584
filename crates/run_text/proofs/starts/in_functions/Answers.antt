use Rattle.std.proofs.Common.{◌++◌, ap, ◌∙◌}
use Rattle.c_tree.specs.Numbered.{body_starts}
use Rattle.c_language.proofs.Turns.{each_turn}
use Rattle.run_text.proofs.StartLemmas.{each_function}
use Rattle.run_text.proofs.starts.in_functions.Goals as goal

pub loop-function-preserved : goal.loop-function-preserved
loop-function-preserved c =
    each_turn each_function c.args.list.now c.loop-function.function-index c.function-item.result c.args.found.now.items c.loop-function.found.items c.among.new.found.items c.loop-function-test.true c.function-item.is c.loop-function.invariant (c.in_ok-among.ensures ∙ ap (λ b. c.loop-function.found.items ++ body_starts b) c.as_slice.ensures)
