use Rattle.std.proofs.Common.{◌≡◌, ◌+◌, ◌-◌, ◌<◌, ◌⊎◌, ℕ, List, [], length, get_or, Contains, sym, ap, ◌∙◌, subst, arith}
use Rattle.reaching_defs.specs.Listings.{Listing}
use Rattle.reaching_defs.specs.RowFlow.{row_has, Leads}
use Rattle.reaching_defs.proofs.SearchLemmas.{spread_begins, spread_stops, spread_goes, spread_ends}
use Rattle.reaching_defs.proofs.ListingLemmas.{at_place}
use Rattle.reaching_defs.proofs.search.spread.Goals as goal
use Rattle.reaching_defs.proofs.search.spread.Goals.{then-not-has, else-not-has}

pub loop-done-init : goal.loop-done-init
loop-done-init c =
    let next = c.args.next.now in
    let base = next.stretch.first in
    let pairs = next.pairs.items in
    let v = c.args.v in
    let e = c.visit.ensures in
    let same : base + (v - base) ≡ v = omega (arith, c.requires.from) in
    let none : c.clear.new.self.members ≡ [] = ap (λ (x : Listing). x.members) c.clear.ensures in
    record {
      size = e.size;
      spreading = spread_begins base next.stretch.size pairs c.requires.next.inside (row_has c.args.killed.now) c.args.location v c.visit.new.reached.members
          (λ w h. subst (λ (x : List ℕ). Contains x w ⊎ Leads pairs v (base + w)) none (subst (λ y. Contains c.clear.new.self.members w ⊎ Leads pairs y (base + w)) same (e.only w h)))
          (λ w m. e.all w (subst (λ y. Leads pairs y (base + w)) (sym same) m));
    }

pub overflow_add-next : goal.overflow_add-next
overflow_add-next c =
    let s = c.loop-done.reached.members in
    let at = c.loop-done.done in
    let e = c.members-in-loop-done.ensures in
    let here : at < length s = subst (λ (x : List ℕ). at < length x) c.members.ensures.all c.loop-done-test.true in
    let same = ap (λ (x : List ℕ). get_or x at 0) e.all in
    omega (arith, same, e.below (get_or s at 0) (at_place s at here), c.loop-done.invariant.size, c.requires.few)

pub has-requires-clause-row_in : goal.has-requires-clause-row_in
has-requires-clause-row_in c =
    let s = c.loop-done.reached.members in
    let at = c.loop-done.done in
    let e = c.members-in-loop-done.ensures in
    let here : at < length s = subst (λ (x : List ℕ). at < length x) c.members.ensures.all c.loop-done-test.true in
    let same = ap (λ (x : List ℕ). get_or x at 0) e.all in
    omega (arith, same, e.below (get_or s at 0) (at_place s at here), c.loop-done.invariant.size, c.requires.rows)

pub visit-requires-then-not-has-clause-in_stretch : goal.visit-requires-then-not-has-clause-in_stretch
visit-requires-then-not-has-clause-in_stretch c =
    let s = c.loop-done.reached.members in
    let at = c.loop-done.done in
    let e = c.members-in-loop-done.ensures in
    let here : at < length s = subst (λ (x : List ℕ). at < length x) c.members.ensures.all c.loop-done-test.true in
    let same = ap (λ (x : List ℕ). get_or x at 0) e.all in
    omega (arith, same, e.below (get_or s at 0) (at_place s at here), c.loop-done.invariant.size)

pub loop-done-preserved : goal.loop-done-preserved
loop-done-preserved c =
    let next = c.args.next.now in
    let base = next.stretch.first in
    let pairs = next.pairs.items in
    let kills = row_has c.args.killed.now in
    let location = c.args.location in
    let i = c.loop-done.invariant in
    let s = c.loop-done.reached.members in
    let at = c.loop-done.done in
    let here : at < length s = subst (λ (x : List ℕ). at < length x) c.members.ensures.all c.loop-done-test.true in
    let u : ℕ = get_or c.members-in-loop-done.result.now at 0 in
    let same : u ≡ get_or s at 0 = ap (λ (x : List ℕ). get_or x at 0) c.members-in-loop-done.ensures.all in
    let killed : c.has.result ≡ kills (base + get_or s at 0) location = c.has.ensures ∙ ap (λ (x : ℕ). kills (base + x) location) same in
    elim c.if-not-has.branch [
      | then-not-has w ↦
          let e = w.visit-then-not-has.ensures in
          let more = w.visit-then-not-has.new.reached.members in
          rw w.reached-is (record {
            size = e.size;
            spreading = spread_goes base next.stretch.size pairs c.requires.next.inside kills location c.args.v at s more i.spreading here (sym killed ∙ w.if-not-has.true) e.front
                (λ y h. subst (λ (x : ℕ). Contains s y ⊎ Leads pairs (base + x) (base + y)) same (e.only y h))
                (λ y m. e.all y (subst (λ (x : ℕ). Leads pairs (base + x) (base + y)) (sym same) m));
          })
      | else-not-has w ↦
          rw w.reached-is (record {
            size = i.size;
            spreading = spread_stops base next.stretch.size pairs c.requires.next.inside kills location c.args.v at s i.spreading here (sym killed ∙ w.if-not-has.false);
          })
    ]

pub returns-clause-exact : goal.returns-clause-exact
returns-clause-exact c =
    let next = c.args.next.now in
    let s = c.loop-done.reached.members in
    let size : length c.members.result.now ≡ length s = ap (λ (x : List ℕ). length x) c.members.ensures.all in
    spread_ends next.stretch.first next.stretch.size next.pairs.items c.requires.next.inside (row_has c.args.killed.now) c.args.location c.args.v c.loop-done.done s c.loop-done.invariant.spreading (omega (arith, size))
