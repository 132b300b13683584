use Rattle.std.proofs.Common.{◌≡◌, ◌+◌, ◌∙◌, length, refl, subst, arith}
use Rattle.points_to.specs.Rounds.{IsRound}
use Rattle.points_to.proofs.HeldLemmas.{round_none, round_then}
use Rattle.points_to.proofs.rounds.forwards.Goals as goal

pub loop-k-init : goal.loop-k-init
loop-k-init c = round_none c.args.solver.now.effects c.args.moves.now 0 0 c.args.solver.now (omega arith) c.requires.ready refl

pub turn-more-requires-clause-ready : goal.turn-more-requires-clause-ready
turn-more-requires-clause-ready c = c.loop-k.invariant.ready

pub turn-more-requires-clause-statements : goal.turn-more-requires-clause-statements
turn-more-requires-clause-statements c = c.loop-k.invariant.statements_stay ∙ c.requires.statements

pub loop-k-preserved : goal.loop-k-preserved
loop-k-preserved c =
    let l = c.loop-k in
    round_then c.args.solver.now.effects c.args.moves.now 0 l.k (l.k + 1) c.args.solver.now l.solver c.turn-more.new.solver l.changed c.turn-more.result l.invariant c.turn-more.ensures

pub returns : goal.returns
returns c =
    let l = c.loop-k in
    let most = l.auto.k-end in
    let done = c.loop-k-test.false in
    let few = c.requires.few in
    let end : l.k ≡ length c.args.moves.now = omega (arith, most, done, few) in
    subst (λ n. IsRound c.args.solver.now.effects c.args.moves.now 0 n c.args.solver.now l.solver l.changed) end l.invariant
