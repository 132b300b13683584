use Rattle.std.proofs.Common.{◌≡◌, ◌-◌, ◌+◌, ◌∙◌, length, refl, subst, arith}
use Rattle.points_to.specs.Rounds.{IsRound}
use Rattle.points_to.proofs.HeldLemmas.{round_none, round_back}
use Rattle.points_to.proofs.rounds.backwards.Goals as goal

pub loop-left-init : goal.loop-left-init
loop-left-init c = record {
  used = round_none c.args.solver.now.effects c.args.moves.now _ (length c.args.moves.now) c.args.solver.now (omega arith) c.requires.ready refl;
  within = omega arith;
}

pub turn-more-requires-clause-ready : goal.turn-more-requires-clause-ready
turn-more-requires-clause-ready c = c.loop-left.invariant.used.ready

pub turn-more-requires-clause-statements : goal.turn-more-requires-clause-statements
turn-more-requires-clause-statements c = c.loop-left.invariant.used.statements_stay ∙ c.requires.statements

pub loop-left-preserved : goal.loop-left-preserved
loop-left-preserved c =
    let l = c.loop-left in
    let p = c.args.solver.now.effects in
    let i = l.left - 1 in
    let some = c.loop-left-test.true in
    let within = l.invariant.within in
    let next : i + 1 ≡ l.left = omega (arith, some) in
    record {
      used = round_back p c.args.moves.now i l.left (length c.args.moves.now) c.args.solver.now l.solver c.turn-more.new.solver l.changed c.turn-more.result l.invariant.used
          (subst (λ n. IsRound l.solver.effects c.args.moves.now i n l.solver c.turn-more.new.solver c.turn-more.result) next c.turn-more.ensures);
      within = omega (arith, within);
    }

pub returns : goal.returns
returns c =
    let l = c.loop-left in
    let none : l.left ≡ 0 = omega (arith, c.loop-left-test.false) in
    subst (λ n. IsRound c.args.solver.now.effects c.args.moves.now n (length c.args.moves.now) c.args.solver.now l.solver l.changed) none l.invariant.used
