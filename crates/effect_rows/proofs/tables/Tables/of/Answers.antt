-- All locations are noted.
use Rattle.std.proofs.Common.{◌≡◌, refl, length, arith}
use Rattle.std.proofs.lemmas.List.{length-map}
use Rattle.dep_model.specs.Locations.{TypedLocation, locations}
use Rattle.effect_rows.proofs.NotedLemmas.{all_noted}
use Rattle.effect_rows.proofs.tables.Tables.of.Goals as goal

pub returns : goal.returns
returns c =
    let p = c.args.p.now in
    let all : c.loop-place.place ≡ length c.args.list.now = let done = c.loop-place-test.false in let most = c.loop-place.auto.place-end in let is = c.loop-place.invariant.end in omega (arith, done, most, is) in
    all_noted p c.args.list.now _ c.loop-place.tables _ c.requires.once c.requires.list_is (length-map (locations p) (λ (o : TypedLocation). o.location)) all c.loop-place.invariant.noted refl refl refl refl refl c.in_ok-tables-2.ensures
