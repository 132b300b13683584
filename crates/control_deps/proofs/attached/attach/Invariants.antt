use Rattle.std.proofs.Common.{◌≡◌, ◌++◌, drop}
use Rattle.dep_model.specs.Groups.{row}
use Rattle.control_deps.specs.Attached.{controllers, attached_from}
use Rattle.control_deps.proofs.attached.attach.Given as goal

abbrev pub invariant-loop-number : goal.invariant-loop-number
invariant-loop-number l = l.out.items ++ attached_from (controllers l.entry (row l.own) l.function) l.number (drop l.number l.vertices) ≡ l.initial.out.items ++ attached_from (controllers l.entry (row l.own) l.function) 0 l.vertices
