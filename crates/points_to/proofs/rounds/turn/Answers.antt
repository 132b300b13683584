use Rattle.std.proofs.Common.{◌∙◌, refl, sym}
use Rattle.points_to.proofs.HeldLemmas.{round_skipped}
use Rattle.points_to.proofs.RoundLemmas.{place}
use Rattle.points_to.proofs.rounds.turn.Goals as goal

pub returns-then-is_settled : goal.returns-then-is_settled
returns-then-is_settled c =
    let w = c.args.solver.now in
    round_skipped w.effects c.args.moves.now c.args.k w c.requires.ready refl (sym c.is_settled.ensures ∙ c.if-is_settled.true)

pub returns-else-is_settled : goal.returns-else-is_settled
returns-else-is_settled c = c.take.ensures c.args.moves.now (place c.args.moves.now c.args.k c.index-moves-k.result c.requires.inside c.index-moves-k.is)
