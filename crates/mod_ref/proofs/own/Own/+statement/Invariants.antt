use Rattle.std.proofs.Common.{take}
use Rattle.dep_model.specs.Doings.{body_doings}
use Rattle.mod_ref.specs.Own.{IsAdded, arms_doings}
use Rattle.mod_ref.proofs.own.Own.+statement.Given as goal

abbrev pub invariant-arms-loop-arm : goal.invariant-arms-loop-arm
invariant-arms-loop-arm l = IsAdded l.f (arms_doings (take l.arm-index l.list)) l.initial.self l.self

abbrev pub invariant-statements-loop-statement : goal.invariant-statements-loop-statement
invariant-statements-loop-statement l = IsAdded l.f (body_doings (take l.statement-index l.list)) l.initial.self l.self
