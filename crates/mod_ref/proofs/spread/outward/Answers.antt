use Rattle.std.proofs.Common.{length, ◌∙◌, subst}
use Rattle.rule_closure.specs.Rules.{RuleSystem}
use Rattle.dep_model.specs.LocationLists.{location_list}
use Rattle.mod_ref.specs.Columns.{AreSpread}
use Rattle.mod_ref.proofs.CalledLaws.{own_calls_within, effects_are}
use Rattle.mod_ref.proofs.spread.outward.Goals as goal

pub prepare-requires : goal.prepare-requires
prepare-requires c = own_calls_within c.args.p.now c.args.own.points.now c.args.own c.requires.own_is

pub returns : goal.returns
returns c =
    let p = c.args.p.now in
    let own = c.args.own in
    let n = length (location_list p) in
    effects_are p own.points.now own c.requires.own_is (record { modified = c.spread_all.new.found; used = c.spread_all-2.new.found })
    (subst (λ (k : RuleSystem). AreSpread p k.rules own.modified n c.spread_all.new.found) c.in_ok-closure.ensures c.spread_all.ensures.spread)
    c.spread_all.ensures.size
    (subst (λ (k : RuleSystem). AreSpread p k.rules own.used n c.spread_all-2.new.found) (c.spread_all.ensures.kept ∙ c.in_ok-closure.ensures) c.spread_all-2.ensures.spread)
    c.spread_all-2.ensures.size
