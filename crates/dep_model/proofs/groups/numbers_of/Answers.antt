use Rattle.std.proofs.Common.{◌++◌, drop, ap, ◌∙◌}
use Rattle.dep_model.specs.FunctionVertices.{passes, numbers_from}
use Rattle.dep_model.specs.Groups.{in_group}
use Rattle.dep_model.proofs.Stretching.{numbers_begin, numbers_more, numbers_end}
use Rattle.dep_model.proofs.groups.numbers_of.Goals as goal

pub loop-number-init : goal.loop-number-init
loop-number-init c =
    let first = c.stretch_of-stretch.result.first in
    ap (λ found. found ++ numbers_from (passes (in_group c.args.group) c.args.function) first (drop first c.args.vertices.now)) c.new-found.ensures.items
    ∙ numbers_begin c.args.vertices.now c.args.function c.stretch_of-stretch.result c.stretch_of-stretch.ensures (in_group c.args.group)

pub loop-number-preserved : goal.loop-number-preserved
loop-number-preserved c =
    numbers_more c.args.vertices.now c.args.function c.stretch_of-stretch.result c.stretch_of-stretch.ensures (in_group c.args.group) c.loop-number.number c.loop-number.found.items c.add_of_group.new.found.items
    (c.loop-number.auto.number, c.loop-number-test.true) c.loop-number.invariant c.in_ok-add_of_group.ensures

pub returns : goal.returns
returns c =
    numbers_end c.args.vertices.now c.args.function c.stretch_of-stretch.result c.stretch_of-stretch.ensures (in_group c.args.group) c.loop-number.found.items c.loop-number.number c.loop-number-test.false c.loop-number.invariant
