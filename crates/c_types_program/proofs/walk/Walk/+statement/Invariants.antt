use Rattle.std.proofs.Common.{◌+◌, ◌*◌, drop}
use Rattle.c_types_base.specs.Tables.{scope_of}
use Rattle.c_types_program.proofs.Sizes.{size, body_size, part_size, arm_size, arms_size}
use Rattle.c_types_program.proofs.Turns.{Going, GoingArms}
use Rattle.c_types_program.proofs.walk.Walk.+statement.Given as goal

abbrev pub invariant-statements-loop-statement : goal.invariant-statements-loop-statement
invariant-statements-loop-statement l =
    Going l.initial.self.tables.raw.now (scope_of l.initial.self.tables) l.initial.self l.self l.made (drop l.statement-index l.list) l.list

abbrev pub invariant-arms-loop-arm : goal.invariant-arms-loop-arm
invariant-arms-loop-arm l =
    GoingArms l.initial.self.tables.raw.now (scope_of l.initial.self.tables) l.t l.initial.self l.self l.made (drop l.arm-index l.list) l.list

abbrev pub decreases-statement : goal.decreases-statement
decreases-statement l = 8 * size l.statement.now + 1

abbrev pub decreases-statements : goal.decreases-statements
decreases-statements l = 8 * body_size l.list.now + 2

abbrev pub decreases-block : goal.decreases-block
decreases-block l = 8 * body_size l.body.now + 3

abbrev pub decreases-bare_block : goal.decreases-bare_block
decreases-bare_block l = 8 * (1 + body_size l.body.now)

abbrev pub decreases-conditional : goal.decreases-conditional
decreases-conditional l = 8 * (1 + (body_size l.chosen.now + body_size l.other.now))

abbrev pub decreases-while_loop : goal.decreases-while_loop
decreases-while_loop l = 8 * (1 + body_size l.body.now)

abbrev pub decreases-do_loop : goal.decreases-do_loop
decreases-do_loop l = 8 * (1 + body_size l.body.now)

abbrev pub decreases-part : goal.decreases-part
decreases-part l = 8 * part_size l.part.now + 2

abbrev pub decreases-for_loop : goal.decreases-for_loop
decreases-for_loop l = 8 * (1 + (part_size l.init.now + (part_size l.step.now + body_size l.body.now)))

abbrev pub decreases-switch : goal.decreases-switch
decreases-switch l = 8 * (1 + arms_size l.arms.now)

abbrev pub decreases-arms : goal.decreases-arms
decreases-arms l = 8 * arms_size l.list.now + 4

abbrev pub decreases-arm : goal.decreases-arm
decreases-arm l = 8 * arm_size l.arm.now + 3
