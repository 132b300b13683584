use Rattle.std.proofs.Common.{◌++◌, codes, ap, ◌∙◌, append_assoc}
use Rattle.c_language.specs.Words.{Bytes, expr_words}
use Rattle.c_language.proofs.Turns.{each_turn}
use Rattle.c_print.proofs.Loops.{each_comma}
use Rattle.c_print.proofs.expressions.behind_commas.Goals as goal

pub loop-child-preserved : goal.loop-child-preserved
loop-child-preserved c =
    let words = expr_words c.args.program.now in
    each_turn (each_comma words) c.args.all.now c.loop-child.child-index c.child-item.result c.args.out.now c.loop-child.out c.expression.new.out
    c.loop-child-test.true c.child-item.is c.loop-child.invariant
    (c.in_ok-expression.ensures ∙ ap (λ (y : Bytes). y ++ words c.child-item.result) c.in_ok-append.ensures.ok ∙ append_assoc c.loop-child.out (codes ", ") (words c.child-item.result))
