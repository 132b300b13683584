use Rattle.std.proofs.Common.{◌++◌, codes, get_or, ap, ◌∙◌, append_assoc}
use Rattle.c_language.specs.Words.{Bytes}
use Rattle.c_language.specs.Layout.{var_words}
use Rattle.c_print.proofs.Loops.{each_comma}
use Rattle.c_language.proofs.Turns.{each_turn_at}
use Rattle.c_print.proofs.heads.variables_behind_commas.Goals as goal

pub loop-var-preserved : goal.loop-var-preserved
loop-var-preserved c =
    let words = var_words c.args.program.now in
    let x = get_or c.args.vars.now c.loop-var.var-index 0 in
    each_turn_at (each_comma words) c.args.vars.now c.loop-var.var-index 0 c.args.out.now c.loop-var.out c.variable.new.out
    c.loop-var-test.true c.loop-var.invariant
    (c.in_ok-variable.ensures ∙ ap (λ (y : Bytes). y ++ words x) c.in_ok-append.ensures.ok ∙ append_assoc c.loop-var.out (codes ", ") (words x))
