use Rattle.std.proofs.Common.{◌++◌, ap, ◌∙◌, arith}
use Rattle.c_print.specs.Lists.{behind_commas}
use Rattle.c_print.proofs.Loops.{named_params-whole, named_turn}
use Rattle.c_print.proofs.heads.named_behind_commas.Goals as goal

pub loop-at-preserved : goal.loop-at-preserved
loop-at-preserved c =
    named_turn c.args.program.now c.args.names.now c.args.vars.now c.loop-at.at c.index-names-at.result 0 c.args.out.now c.loop-at.out c.append.new.self c.parameter.new.out
    (omega arith) (omega arith) c.index-names-at.is c.loop-at.invariant c.in_ok-append.ensures.ok c.in_ok-parameter.ensures

pub returns : goal.returns
returns c =
    c.loop-at.invariant
    ∙ ap (λ y. c.args.out.now ++ behind_commas y) (named_params-whole c.args.program.now c.args.names.now c.args.vars.now c.loop-at.at (omega arith))
