use Rattle.std.proofs.Common.{take}
use Rattle.forward_chop.specs.Fields.{AsksFrom}
use Rattle.forward_chop.specs.Pairs.{HasAsked}
use Rattle.forward_chop.proofs.field.Field.ask.Given as goal

abbrev pub invariant-loop-edge : goal.invariant-loop-edge
invariant-loop-edge l = HasAsked (AsksFrom l.self l.base (take l.edge-index l.edges) l.exits) l.initial.wanted l.wanted l.grows
