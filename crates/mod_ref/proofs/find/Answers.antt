use Rattle.std.proofs.Common.{IfOk, length, subst}
use Rattle.dep_model.specs.declared.points_to.Effects.{Effects}
use Rattle.dep_model.specs.LocationRows.{points_of}
use Rattle.mod_ref.specs.Effects.{AreEffectsByPlace}
use Rattle.mod_ref.proofs.CalledLaws.{own_again}
use Rattle.mod_ref.proofs.find.Goals as goal

pub outward-requires-clause-own_is : goal.outward-requires-clause-own_is
outward-requires-clause-own_is c = own_again c.args.p.now c.args.t.now (length c.args.p.now.functions) c.in_ok-own.own c.in_ok-own.ensures

pub returns : goal.returns
returns c =
    let p = c.args.p.now in
    record { exact = subst (λ u. IfOk c.outward.result (λ (e : Effects). AreEffectsByPlace p (points_of p u) e)) c.in_ok-own.ensures.points_is c.outward.ensures }
