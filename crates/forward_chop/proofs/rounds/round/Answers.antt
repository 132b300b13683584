use Rattle.std.proofs.Common.{◌≡◌, ◌∙◌, ◌+◌, ◌-◌, ◌<◌, ◌≤◌, ℕ, length, false, Some, slice_get, sym, ap, arith, rules}
use Rattle.std.specs.Prelude.{vec_len}
use Rattle.std.proofs.lemmas.Bool.Decides.{nat_tests}
use Rattle.std.proofs.lemmas.List.{length-set}
use Rattle.std.proofs.lemmas.Option.{slice_get_within, slice_get-get_or}
use Rattle.forward_chop.specs.declared.field.Field.{Field}
use Rattle.forward_chop.specs.Rounds.{NoneDue}
use Rattle.forward_chop.proofs.RoundLaws.{gone_none, gone_both, open_stays, parts_set, down_parts}
use Rattle.forward_chop.proofs.rounds.round.Goals as goal

pub loop-place-init : goal.loop-place-init
loop-place-init c =
    let size : vec_len c.args.parts.now ≡ length c.args.parts.now.items = search rules in
    let e = c.len-place.ensures in
    record {
      parts = c.requires.parts;
      inside = omega (arith, e, size);
      gone = gone_none c.args.g.now.edges c.args.wanted.now c.args.into.now c.requires.open_.laid c.requires.open_.done;
      down = λ f k p low at. absurd (let within = slice_get_within c.args.parts.now.items k p at in omega (arith, e, size, low, within));
    }

pub visit_all-more-requires-clause-part : goal.visit_all-more-requires-clause-part
visit_all-more-requires-clause-part c =
    let items = c.loop-place.parts.items in
    let part = c.index_mut.result.now in
    let inside = c.loop-place.invariant.inside in
    let test = c.loop-place-test.true in
    let low : c.loop-place.place - 1 < length items = grind (arith, nat_tests, inside, test) in
    c.loop-place.invariant.parts.each (c.loop-place.place - 1) part (slice_get-get_or items (c.loop-place.place - 1) part low ∙ ap Some (sym c.index_mut.ensures.value))

pub visit_all-more-requires-clause-open_ : goal.visit_all-more-requires-clause-open_
visit_all-more-requires-clause-open_ c =
    open_stays c.args.g.now c.args.wanted.now c.loop-place.wanted c.args.into.now c.loop-place.into c.loop-place.grows c.requires.open_ c.loop-place.invariant.gone

pub loop-place-preserved : goal.loop-place-preserved
loop-place-preserved c =
    let g = c.args.g.now in
    let l = c.loop-place in
    let items = l.parts.items in
    let k = l.place - 1 in
    let part = c.index_mut.result.now in
    let e = c.visit_all-more.ensures in
    let new = c.visit_all-more.new in
    let more = c.visit_all-more.result in
    let inside = l.invariant.inside in
    let test = c.loop-place-test.true in
    let low : k < length items = grind (arith, nat_tests, inside, test) in
    let at : slice_get items k ≡ Some part = slice_get-get_or items k part low ∙ ap Some (sym c.index_mut.ensures.value) in
    let one : l.place ≡ k + 1 = grind (arith, nat_tests, test) in
    let before : l.grows ≡ false → (j : ℕ) (p : Field) → k + 1 ≤ j → slice_get items j ≡ Some p → NoneDue p.range l.wanted = λ f j p from is. l.invariant.down f j p (omega (arith, one, from)) is in
    record {
      parts = parts_set g items k part new.part l.invariant.parts at e.part e.range;
      inside = (let long = length-set items k new.part in omega (arith, long, low));
      gone = gone_both g.edges c.args.wanted.now l.wanted new.wanted c.args.into.now l.into new.into l.grows more l.invariant.gone e.gone;
      down = down_parts g items k part new.part l.invariant.parts at e.part e.range g.edges l.wanted new.wanted l.into new.into l.grows more e.gone before e.down;
    }

pub returns-clause-down : goal.returns-clause-down
returns-clause-down c = λ e x low.
    let a = c.loop-place.invariant.parts.all x low in
    let test = c.loop-place-test.false in
    let none : c.loop-place.place ≡ 0 = grind (arith, nat_tests, test) in
    c.loop-place.invariant.down e a.0 a.1.0 (omega (arith, none)) a.1.1 x a.1.2
