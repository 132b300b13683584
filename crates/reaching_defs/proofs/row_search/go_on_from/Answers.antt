use Rattle.std.proofs.Common.{◌≡◌, ◌+◌, ◌*◌, ◌<◌, true, ◌&&◌, not, ℕ, List, length, get_or, ◌∙◌, ap, subst, arith}
use Rattle.bit_rows.specs.Words.{word_bit}
use Rattle.reaching_defs.specs.Arrivals.{Passes}
use Rattle.reaching_defs.specs.HeldWords.{location_at}
use Rattle.reaching_defs.specs.RowFlow.{Leads}
use Rattle.reaching_defs.proofs.ArrivalLemmas.{gained_weaker}
use Rattle.reaching_defs.proofs.PassLemmas.{passes_of, passed_by}
use Rattle.reaching_defs.proofs.TargetLemmas.{words_of}
use Rattle.reaching_defs.proofs.row_search.go_on_from.Goals as goal

pub pass-requires-clause-words : goal.pass-requires-clause-words
pass-requires-clause-words c = omega (arith, c.words-come.ensures.len, c.requires.fits)

pub pass-requires-clause-inside : goal.pass-requires-clause-inside
pass-requires-clause-inside c = λ j low.
    let same = c.as_slice.ensures.value in
    let low' : j < length c.args.d.now.held.items = subst (λ (x : List ℕ). j < length x) same low in
    let e = c.requires.held j low' in
    let read = ap (λ (x : List ℕ). get_or x j 0) same in
    omega (arith, e, read, c.words-kills.ensures.len)

pub returns-clause-gained : goal.returns-clause-gained
returns-clause-gained c =
    let base = c.args.next.now.stretch.first in
    let pairs = c.args.next.now.pairs.items in
    let u = c.args.u in
    let held = c.args.d.now.held.items in
    let killed = c.args.killed.now in
    let old = c.args.arrivals.now in
    let passed = c.pass.new.passed in
    let a = c.words-come.ensures in
    let b = c.words-kills.ensures in
    let long : length passed ≡ length held = c.pass.ensures.long ∙ ap (λ (x : List ℕ). length x) c.as_slice.ensures.value in
    let exact : (t : ℕ) → t < 64 * length held → word_bit passed t ≡ (word_bit c.words-come.result.now t && not (word_bit c.words-kills.result.now (location_at held t))) =
    subst (λ (x : List ℕ). (t : ℕ) → t < 64 * length x → word_bit passed t ≡ (word_bit c.words-come.result.now t && not (word_bit c.words-kills.result.now (location_at x t)))) c.as_slice.ensures.value c.pass.ensures.exact in
    gained_weaker (λ w t. Leads pairs (base + u) (base + w) × (word_bit passed t ≡ true)) (λ w t. Leads pairs (base + u) (base + w) × Passes base killed old.rows held u t) old c.visit.new.arrivals
    (λ w t p. (p.0, passes_of base u old.rows killed held c.words-come.result.now c.words-kills.result.now (words_of a.len a.holds a.clean) (words_of b.len b.holds b.clean) passed long exact t p.1))
    c.visit.ensures.gained

pub returns-clause-all : goal.returns-clause-all
returns-clause-all c = λ w t early m p.
    let base = c.args.next.now.stretch.first in
    let u = c.args.u in
    let held = c.args.d.now.held.items in
    let killed = c.args.killed.now in
    let old = c.args.arrivals.now in
    let passed = c.pass.new.passed in
    let a = c.words-come.ensures in
    let b = c.words-kills.ensures in
    let exact : (t : ℕ) → t < 64 * length held → word_bit passed t ≡ (word_bit c.words-come.result.now t && not (word_bit c.words-kills.result.now (location_at held t))) =
    subst (λ (x : List ℕ). (t : ℕ) → t < 64 * length x → word_bit passed t ≡ (word_bit c.words-come.result.now t && not (word_bit c.words-kills.result.now (location_at x t)))) c.as_slice.ensures.value c.pass.ensures.exact in
    c.visit.ensures.all w t m (passed_by base u old.rows killed held c.words-come.result.now c.words-kills.result.now (words_of a.len a.holds a.clean) (words_of b.len b.holds b.clean) passed exact t early p)
