use Rattle.std.proofs.Common.{take}
use Rattle.forward_chop.specs.Fields.{LeavesFrom}
use Rattle.forward_chop.specs.Pairs.{HasAsked}
use Rattle.forward_chop.proofs.field.Field.ask_call.Given as goal

abbrev pub invariant-loop-leave : goal.invariant-loop-leave
invariant-loop-leave l = HasAsked (LeavesFrom l.self l.base l.enter (take l.leave-index l.leaves)) l.initial.wanted l.wanted l.grows
