-- What of a row passes a vertex, and what of it is used there, by the words.
use Rattle.std.proofs.Common.{◌≡◌, ℕ, ◌+◌, ◌*◌, ◌<◌, Bool, true, false, ◌&&◌, not, List, length, refl, sym, ◌∙◌, arith}
use Rattle.bit_rows.specs.Tables.{Table, the_set}
use Rattle.bit_rows.specs.Words.{word_bit}
use Rattle.reaching_defs.specs.declared.definition.Definition.{Definition}
use Rattle.reaching_defs.specs.Arrivals.{Passes, IsMet}
use Rattle.reaching_defs.specs.HeldWords.{location_at, Meets}
use Rattle.reaching_defs.proofs.HeldLemmas.{bit_early}
use Rattle.reaching_defs.proofs.TargetLemmas.{AreWordsOf, member_is}

first_of : (a b : Bool) → (a && b) ≡ true → a ≡ true
first_of true b e = refl
first_of false b e = e

second_of : (a b : Bool) → (a && not b) ≡ true → b ≡ false
second_of true true e = sym e
second_of true false e = refl
second_of false true e = sym e
second_of false false e = refl

both_of : (a b : Bool) → a ≡ true → b ≡ false → (a && not b) ≡ true
both_of true false e f = refl
both_of true true e f = sym f
both_of false b e f = e

-- ---- at vertex u, which is counted from `base` on
module _ (base u : ℕ) (rows other : Table) (held come row : List ℕ) (come_is : AreWordsOf rows.bits come (the_set rows u)) (row_is : AreWordsOf other.bits row (the_set other (base + u))) where
  pub passes_of : (passed : List ℕ) → length passed ≡ length held → ((t : ℕ) → t < 64 * length held → word_bit passed t ≡ (word_bit come t && not (word_bit row (location_at held t)))) → (t : ℕ) → word_bit passed t ≡ true → Passes base other rows held u t
  passes_of passed long exact t h =
      let early : t < 64 * length held = (let e = bit_early passed t h in omega (arith, e, long)) in
      let both = sym (exact t early) ∙ h in
      record {
        come = member_is rows.bits come (the_set rows u) come_is t ∙ first_of (word_bit come t) (not (word_bit row (location_at held t))) both;
        open_ = member_is other.bits row (the_set other (base + u)) row_is (location_at held t) ∙ second_of (word_bit come t) (word_bit row (location_at held t)) both;
      }

  pub passed_by : (passed : List ℕ) → ((t : ℕ) → t < 64 * length held → word_bit passed t ≡ (word_bit come t && not (word_bit row (location_at held t)))) → (t : ℕ) → t < 64 * length held → Passes base other rows held u t → word_bit passed t ≡ true
  passed_by passed exact t early p =
      exact t early ∙ both_of (word_bit come t) (word_bit row (location_at held t)) (sym (member_is rows.bits come (the_set rows u) come_is t) ∙ p.come) (sym (member_is other.bits row (the_set other (base + u)) row_is (location_at held t)) ∙ p.open_)

module _ (base u : ℕ) (rows other : Table) (d : Definition) (come row : List ℕ) (come_is : AreWordsOf rows.bits come (the_set rows u)) (row_is : AreWordsOf other.bits row (the_set other (base + u))) where
  pub met_of : Meets d.held.items come row → IsMet base d rows other u
  met_of m = record {
    bit = m.bit;
    early = m.early;
    here = member_is rows.bits come (the_set rows u) come_is m.bit ∙ m.here;
    there = member_is other.bits row (the_set other (base + u)) row_is (location_at d.held.items m.bit) ∙ m.there;
  }

  pub meets_of : IsMet base d rows other u → Meets d.held.items come row
  meets_of m = record {
    bit = m.bit;
    early = m.early;
    here = sym (member_is rows.bits come (the_set rows u) come_is m.bit) ∙ m.here;
    there = sym (member_is other.bits row (the_set other (base + u)) row_is (location_at d.held.items m.bit)) ∙ m.there;
  }
