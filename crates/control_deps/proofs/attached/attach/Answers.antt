use Rattle.std.proofs.Common.{◌++◌, ap, ◌∙◌}
use Rattle.dep_model.specs.Groups.{row}
use Rattle.control_deps.specs.Attached.{controllers, attached_from}
use Rattle.control_deps.specs.Walk.{from_all}
use Rattle.control_deps.proofs.AttachedStretch.{attached_begin, attached_more, attached_end}
use Rattle.control_deps.proofs.attached.attach.Goals as goal

pub loop-number-init : goal.loop-number-init
loop-number-init c = attached_begin c.args.vertices.now c.args.function c.stretch_of-stretch.result c.stretch_of-stretch.ensures c.args.entry.now (row c.args.own.now) c.args.out.now.items

pub loop-number-preserved : goal.loop-number-preserved
loop-number-preserved c =
    attached_more c.args.vertices.now c.args.function c.stretch_of-stretch.result c.stretch_of-stretch.ensures c.args.entry.now (row c.args.own.now) c.loop-number.number c.loop-number.out.items c.join_one.new.out.items
    (c.args.out.now.items ++ attached_from (controllers c.args.entry.now (row c.args.own.now) c.args.function) 0 c.args.vertices.now) (c.loop-number.auto.number, c.loop-number-test.true) c.loop-number.invariant (c.in_ok-join_one.ensures ∙ ap (λ ks. c.loop-number.out.items ++ from_all ks c.loop-number.number) c.controllers_of.ensures)

pub returns : goal.returns
returns c =
    attached_end c.args.vertices.now c.args.function c.stretch_of-stretch.result c.stretch_of-stretch.ensures c.args.entry.now (row c.args.own.now) c.loop-number.out.items
    (c.args.out.now.items ++ attached_from (controllers c.args.entry.now (row c.args.own.now) c.args.function) 0 c.args.vertices.now) c.loop-number.number c.loop-number-test.false c.loop-number.invariant
