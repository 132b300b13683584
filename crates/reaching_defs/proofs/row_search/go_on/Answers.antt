use Rattle.std.proofs.Common.{◌≡◌, ◌+◌, inl, inr, true, not, eqb, ℕ, List, length, get_or, Contains, refl, sym, ap, ◌∙◌, subst, arith}
use Rattle.std.proofs.lemmas.Bool.{cases_lt, false≢true}
use Rattle.reaching_defs.specs.declared.arrivals.Arrivals.{Arrivals}
use Rattle.reaching_defs.specs.Arrivals.{IsRoomy, Arrives}
use Rattle.reaching_defs.specs.Listings.{Listing}
use Rattle.reaching_defs.proofs.ListingLemmas.{at_place}
use Rattle.reaching_defs.proofs.RowSearchLemmas.{IsTurning, grew, turning_begins, turning_moves, turning_ends}
use Rattle.rule_closure.proofs.ListLemmas.{contains_none}
use Rattle.reaching_defs.proofs.row_search.go_on.Goals as goal

pub go_on_from-requires-clause-in_stretch : goal.go_on_from-requires-clause-in_stretch
go_on_from-requires-clause-in_stretch c =
    let s = c.requires.searching in
    let visited = c.members-visited.result.now in
    let u = get_or visited c.loop-u.u-index 0 in
    let e = c.members-visited.ensures in
    let m : Contains c.swap.new.x.members u = subst (λ (x : List ℕ). Contains x u) e.all (at_place visited c.loop-u.u-index c.loop-u-test.true) in
    let bound = ap (λ (x : Listing). x.bound) c.swap.ensures.x_after in
    omega (arith, e.below u m, bound, s.roomy.same, s.wide)

pub go_on_from-requires-clause-wide : goal.go_on_from-requires-clause-wide
go_on_from-requires-clause-wide c = c.loop-u.invariant.turning.gained.bound_stays ∙ c.requires.searching.wide

pub go_on_from-requires-clause-fits : goal.go_on_from-requires-clause-fits
go_on_from-requires-clause-fits c = let e = c.loop-u.invariant.turning.gained.bits_stay in omega (arith, e, c.requires.searching.fits)

pub loop-u-init : goal.loop-u-init
loop-u-init c =
    let next = c.args.next.now in
    let killed = c.args.killed.now in
    let d = c.args.d.now in
    let before = c.args.arrivals.now in
    let s = c.requires.searching in
    let old : Arrivals = record { rows = before.rows; reached = before.reached; grown = c.args.turn.now } in
    let same : c.args.turn.now.bound ≡ before.reached.bound = ap (λ (x : Listing). x.bound) c.requires.turn ∙ sym s.wide in
    let roomy : IsRoomy old = record { sized = s.roomy.sized; same = same } in
    record {
      passed = c.requires.passed;
      turning = subst (λ (g : Listing). IsTurning next killed d c.members-visited.result.now old 0 (record { rows = before.rows; reached = before.reached; grown = g })) (sym c.swap.ensures.y_after) (turning_begins next killed d c.members-visited.result.now old s.sound roomy);
    }

pub loop-u-preserved : goal.loop-u-preserved
loop-u-preserved c =
    let next = c.args.next.now in
    let killed = c.args.killed.now in
    let d = c.args.d.now in
    let before = c.args.arrivals.now in
    let s = c.requires.searching in
    let old : Arrivals = record { rows = before.rows; reached = before.reached; grown = c.args.turn.now } in
    let e = c.go_on_from.ensures in
    record {
      passed = e.passed;
      turning = turning_moves next killed d c.members-visited.result.now old s.sound c.loop-u.u-index c.loop-u.arrivals c.go_on_from.new.arrivals c.requires.long c.loop-u.invariant.turning e.gained (λ w t early f. e.all w t early f.0 f.1);
    }

pub returns-clause-searching : goal.returns-clause-searching
returns-clause-searching c =
    let next = c.args.next.now in
    let killed = c.args.killed.now in
    let d = c.args.d.now in
    let before = c.args.arrivals.now in
    let old : Arrivals = record { rows = before.rows; reached = before.reached; grown = c.args.turn.now } in
    turning_ends next killed d c.members-visited.result.now before old c.loop-u.arrivals c.requires.searching refl refl (λ w m. subst (λ (x : List ℕ). Contains x w) (sym (c.members-visited.ensures.all ∙ ap (λ (x : Listing). x.members) c.swap.ensures.x_after)) m) c.loop-u.u-index c.loop-u.invariant.turning (omega arith)

pub returns-clause-more : goal.returns-clause-more
returns-clause-more c = λ h.
    let next = c.args.next.now in
    let before = c.args.arrivals.now in
    let old : Arrivals = record { rows = before.rows; reached = before.reached; grown = c.args.turn.now } in
    let a = c.loop-u.arrivals in
    let none = ap (λ (x : Listing). x.members) c.requires.turn in
    elim (cases_lt 0 (length a.grown.members)) [
      | inl some ↦ grew (λ w t. Arrives next.pairs.items c.args.killed.now c.args.d.now (next.stretch.first + w) t) old a c.loop-u.invariant.turning.gained (λ w m. contains_none w (subst (λ (x : List ℕ). Contains x w) none m)) some
      | inr nothing ↦
          let same = ap (λ (x : List ℕ). length x) c.members.ensures.all in
          let z : length c.members.result.now ≡ 0 = omega (arith, same, nothing) in
          let r : c.is_empty.result ≡ true = c.is_empty.ensures ∙ ap (λ k. eqb k 0) z in
          absurd (false≢true (sym (ap not r) ∙ h))
    ]
