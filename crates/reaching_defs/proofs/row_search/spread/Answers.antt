use Rattle.std.proofs.Common.{◌≡◌, ◌+◌, ◌-◌, ◌*◌, ◌<◌, ◌≤◌, ℕ, true, List, sym, ap, ◌∙◌, subst, arith}
use Rattle.bit_rows.specs.Tables.{Holds, IsSized, count_all}
use Rattle.bit_rows.specs.Words.{word_bit}
use Rattle.reaching_defs.specs.declared.arrivals.Arrivals.{Arrivals}
use Rattle.reaching_defs.specs.Arrivals.{IsBare, HasGained}
use Rattle.reaching_defs.specs.Listings.{Listing}
use Rattle.reaching_defs.specs.RowFlow.{Leads}
use Rattle.reaching_defs.proofs.ArrivalLemmas.{count_bounded}
use Rattle.reaching_defs.proofs.RowSearchLemmas.{search_begins}
use Rattle.reaching_defs.proofs.row_search.spread.Goals as goal

pub visit-requires-clause-roomy : goal.visit-requires-clause-roomy
visit-requires-clause-roomy c =
    let r = c.requires.roomy in
    let bound = ap (λ (x : Listing). x.bound) c.clear.ensures in
    record {
      sized = subst (λ n. IsSized n c.args.arrivals.now.rows.bits c.args.arrivals.now.rows) (sym bound) r.sized;
      same = r.same ∙ sym bound;
    }

pub visit-requires-clause-wide : goal.visit-requires-clause-wide
visit-requires-clause-wide c = ap (λ (x : Listing). x.bound) c.clear.ensures ∙ c.requires.wide

pub loop-init : goal.loop-init
loop-init c =
    let next = c.args.next.now in
    let killed = c.args.killed.now in
    let d = c.args.d.now in
    let before = c.args.arrivals.now in
    let old : Arrivals = record { rows = before.rows; reached = c.clear.new.self; grown = before.grown } in
    let same = c.as_slice.ensures.value in
    let bare : IsBare old = record { none = c.requires.bare.none; still = c.requires.bare.still } in
    let wide = ap (λ (x : Listing). x.bound) c.clear.ensures ∙ c.requires.wide in
    record {
      passed = c.requires.passed;
      turn = c.requires.turn;
      searching = search_begins next killed d (d.vertex - next.stretch.first) old c.visit.new.arrivals (omega (arith, c.requires.from)) wide c.requires.fits bare
          (subst (λ (x : List ℕ). HasGained (λ w t. Leads next.pairs.items (next.stretch.first + (d.vertex - next.stretch.first)) (next.stretch.first + w) × (word_bit x t ≡ true)) old c.visit.new.arrivals) same c.visit.ensures.gained)
          (subst (λ (x : List ℕ). (w t : ℕ) → Leads next.pairs.items (next.stretch.first + (d.vertex - next.stretch.first)) (next.stretch.first + w) → word_bit x t ≡ true → Holds c.visit.new.arrivals.rows w t) same c.visit.ensures.all);
      bits = c.visit.ensures.gained.bits_stay;
    }

pub loop-smaller : goal.loop-smaller
loop-smaller c =
    let n = c.args.next.now.stretch.size in
    let e = c.go_on.ensures in
    let a = c.go_on.new.arrivals in
    let bits = a.rows.bits in
    let same : bits ≡ c.loop.arrivals.rows.bits = e.bits in
    let sized : IsSized n bits a.rows = subst (λ k. IsSized k bits a.rows) e.searching.wide e.searching.roomy.sized in
    let bound : count_all a.rows ≤ n * bits = count_bounded n bits a.rows sized in
    let more : count_all c.loop.arrivals.rows < count_all a.rows = e.more c.loop-test.true in
    let less : n * bits - count_all a.rows < n * bits - count_all c.loop.arrivals.rows = omega arith in
    subst (λ b. n * bits - count_all a.rows < n * b - count_all c.loop.arrivals.rows) same less

pub returns-clause-done : goal.returns-clause-done
returns-clause-done c = c.go_on.ensures.done c.loop-test.false
