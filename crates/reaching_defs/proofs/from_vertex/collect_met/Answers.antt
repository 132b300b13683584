use Rattle.std.proofs.Common.{◌≡◌, ◌<◌, ◌↔◌, ◌⊎◌, ℕ, List, length, get_or, Contains, refl, sym, ap, ◌∙◌, subst, arith}
use Rattle.std.proofs.lemmas.Bool.{false≢true}
use Rattle.std.proofs.lemmas.List.{get_or_default}
use Rattle.reaching_defs.specs.Arrivals.{IsMet}
use Rattle.reaching_defs.specs.HeldWords.{Meets}
use Rattle.reaching_defs.proofs.ListingLemmas.{at_place}
use Rattle.reaching_defs.proofs.MetLemmas.{met_begins, met_adds, met_skips, met_ends}
use Rattle.reaching_defs.proofs.PassLemmas.{met_of, meets_of}
use Rattle.reaching_defs.proofs.TargetLemmas.{words_of}
use Rattle.reaching_defs.proofs.from_vertex.collect_met.Goals as goal
use Rattle.reaching_defs.proofs.from_vertex.collect_met.Goals.{then-meet, else-meet}

pub loop-w-init : goal.loop-w-init
loop-w-init c = record {
  size = refl;
  exact = met_begins c.members-reached.result.now c.args.targets.now.members (IsMet c.args.base c.args.d.now c.args.arrivals.now.rows c.args.used.now);
}

pub words-come-requires : goal.words-come-requires
words-come-requires c =
    let reached = c.members-reached.result.now in
    let u = get_or reached c.loop-w.w-index 0 in
    let m : Contains c.args.arrivals.now.reached.members u = subst (λ (x : List ℕ). Contains x u) c.members-reached.ensures.all (at_place reached c.loop-w.w-index c.loop-w-test.true) in
    let low = c.members-reached.ensures.below u m in
    omega (arith, low, c.requires.roomy.sized.rows_are)

pub overflow_add-base : goal.overflow_add-base
overflow_add-base c =
    let reached = c.members-reached.result.now in
    let u = get_or reached c.loop-w.w-index 0 in
    let m : Contains c.args.arrivals.now.reached.members u = subst (λ (x : List ℕ). Contains x u) c.members-reached.ensures.all (at_place reached c.loop-w.w-index c.loop-w-test.true) in
    let low = c.members-reached.ensures.below u m in
    omega (arith, low, c.requires.size, c.requires.few)

pub words-uses-requires : goal.words-uses-requires
words-uses-requires c =
    let reached = c.members-reached.result.now in
    let u = get_or reached c.loop-w.w-index 0 in
    let m : Contains c.args.arrivals.now.reached.members u = subst (λ (x : List ℕ). Contains x u) c.members-reached.ensures.all (at_place reached c.loop-w.w-index c.loop-w-test.true) in
    let low = c.members-reached.ensures.below u m in
    omega (arith, low, c.requires.size, c.requires.rows)

pub meet-requires-clause-words : goal.meet-requires-clause-words
meet-requires-clause-words c =
    let long = ap (λ (x : List ℕ). length x) c.as_slice.ensures.value in
    omega (arith, long, c.words-come.ensures.len, c.requires.fits)

pub meet-requires-clause-inside : goal.meet-requires-clause-inside
meet-requires-clause-inside c = λ j low.
    let same = c.as_slice.ensures.value in
    let low' : j < length c.args.d.now.held.items = subst (λ (x : List ℕ). j < length x) same low in
    let e = c.requires.held j low' in
    let read = ap (λ (x : List ℕ). get_or x j 0) same in
    omega (arith, e, read, c.words-uses.ensures.len)

pub add-requires : goal.add-requires
add-requires c =
    let reached = c.members-reached.result.now in
    let u = get_or reached c.loop-w.w-index 0 in
    let m : Contains c.args.arrivals.now.reached.members u = subst (λ (x : List ℕ). Contains x u) c.members-reached.ensures.all (at_place reached c.loop-w.w-index c.loop-w-test.true) in
    let low = c.members-reached.ensures.below u m in
    omega (arith, low, c.requires.size, c.loop-w.invariant.size)

pub returns-clause-exact : goal.returns-clause-exact
returns-clause-exact c =
    let base = c.args.base in
    let d = c.args.d.now in
    let a = c.args.arrivals.now in
    let used = c.args.used.now in
    let old = c.args.targets.now.members in
    let t = c.loop-w.targets.members in
    let all = met_ends c.members-reached.result.now old t (IsMet base d a.rows used) c.loop-w.w-index (omega arith) c.loop-w.invariant.exact in
    subst (λ (x : List ℕ). (w : ℕ) → Contains t w ↔ (Contains old w ⊎ (Contains x w × IsMet base d a.rows used w))) c.members-reached.ensures.all all

pub loop-w-preserved : goal.loop-w-preserved
loop-w-preserved c =
    let i = c.loop-w.invariant in
    let base = c.args.base in
    let d = c.args.d.now in
    let rows = c.args.arrivals.now.rows in
    let used = c.args.used.now in
    let old = c.args.targets.now.members in
    let t = c.loop-w.targets.members in
    let reached = c.members-reached.result.now in
    let at = c.loop-w.w-index in
    let u : ℕ = get_or reached at 0 in
    let is : get_or reached at u ≡ u = get_or_default reached at u 0 c.loop-w-test.true in
    let come = c.words-come.result.now in
    let uses = c.words-uses.result.now in
    let a = c.words-come.ensures in
    let b = c.words-uses.ensures in
    let same = c.as_slice.ensures.value in
    elim c.if-meet.branch [
      | then-meet w ↦
          let met : IsMet base d rows used u = met_of base u rows used d come uses (words_of a.len a.holds a.clean) (words_of b.len b.holds b.clean) (subst (λ (x : List ℕ). Meets x come uses) same (c.meet.ensures.0 w.if-meet.true)) in
          rw w.targets-is (record {
            size = w.add.ensures.bound ∙ i.size;
            exact = met_adds reached at u c.loop-w-test.true is old t (IsMet base d rows used) i.exact met w.add.new.self.members w.add.ensures.exact;
          })
      | else-meet w ↦
          rw w.targets-is (record {
            size = i.size;
            exact = met_skips reached at u c.loop-w-test.true is old t (IsMet base d rows used) i.exact
                (λ m. false≢true (sym w.if-meet.false ∙ c.meet.ensures.1 (subst (λ (x : List ℕ). Meets x come uses) (sym same) (meets_of base u rows used d come uses (words_of a.len a.holds a.clean) (words_of b.len b.holds b.clean) m))));
          })
    ]
