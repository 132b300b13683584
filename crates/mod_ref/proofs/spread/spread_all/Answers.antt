use Rattle.std.proofs.Common.{◌≡◌, ◌<◌, List, length, slice_get, ap, ◌∙◌, subst, arith}
use Rattle.rule_closure.specs.Rules.{RuleSystem}
use Rattle.dep_model.specs.declared.location.Location.{Location}
use Rattle.dep_model.specs.LocationLists.{location_list}
use Rattle.mod_ref.specs.Columns.{IsSpread}
use Rattle.mod_ref.proofs.ColumnLemmas.{spread_turn}
use Rattle.mod_ref.proofs.spread.spread_all.Goals as goal

pub loop-location-preserved : goal.loop-location-preserved
loop-location-preserved c =
    let p = c.args.p.now in
    let own = c.args.own.now in
    let n = c.loop-location.location in
    let old = c.loop-location.found in
    let new = c.spread_one.new.found in
    let i = c.loop-location.invariant in
    let e = c.spread_one.ensures in
    let list : c.args.l.now ≡ location_list p = c.requires.list_is in
    let same : c.loop-location.closure ≡ c.args.closure.now = i.2 in
    let long : length c.args.l.now ≡ length (location_list p) = ap (λ (xs : List Location). length xs) list in
    let low : n < length (location_list p) = (let test = c.loop-location-test.true in let end = i.4 in omega (arith, test, end, long)) in (
      spread_turn p c.args.closure.now.rules own n old new low i.0
          (λ o at out. subst (λ (k : RuleSystem). IsSpread k.rules own n old new) same (e.outside o (ap (λ xs. slice_get xs n) list ∙ at) out))
          (λ o at no_. e.inside o (ap (λ xs. slice_get xs n) list ∙ at) no_),
      e.size,
      e.kept ∙ same,
      e.marks_are ∙ i.3,
      i.4,
    )
