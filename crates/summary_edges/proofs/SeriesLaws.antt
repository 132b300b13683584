-- A series of rounds, each but the last with a new fact, has at most one more than there are true facts.
use Rattle.std.proofs.Common.{◌≡◌, ℕ, zero, suc, ◌+◌, ◌*◌, ◌/◌, ◌<◌, ◌≤◌, ◌==◌, inl, inr, Bool, true, false, List, [], ◌∷◌, length, get_or, set, replicate, refl, sym, ap, ◌∙◌, subst, arith}
use Rattle.std.specs.Prelude.{if◌then◌else◌}
use Rattle.std.proofs.lemmas.Bool.{false≢true, or_cases}
use Rattle.std.proofs.lemmas.Bool.Decides.{nat_tests}
use Rattle.std.proofs.lemmas.List.{length-replicate, length-set}
use Rattle.bit_rows.specs.Words.{word_bit}
use Rattle.dep_model.specs.declared.graph.Graph.{Graph}
use Rattle.dep_model.specs.Facts.{IsFactBit, HoldsFact, AreTrueFacts}
use Rattle.dep_model.specs.Graphs.{HasRows}
use Rattle.matched_paths.specs.Places.{HasOneMore, bits_below}
use Rattle.matched_paths.proofs.BitLemmas.{bit_set, one_counted}
use Rattle.matched_paths.proofs.RowPlaces.{one_fact, bit_below}
use Rattle.summary_edges.specs.Laws.{IsSeries, none, last, more}
use Rattle.summary_edges.proofs.Bits.{no_bits}

abbrev one_if : Bool → ℕ
one_if b = if b then 1 else 0

-- words whose bits are among others' have no more of them
pub bits_among : (n : ℕ) (us ws : List ℕ) → ((i : ℕ) → word_bit us i ≡ true → word_bit ws i ≡ true) → bits_below n us ≤ bits_below n ws
bits_among zero us ws h = omega arith
bits_among (suc n) us ws h = by_test (word_bit us n) (word_bit ws n) refl refl (bits_among n us ws h)
  where
    by_test : (a b : Bool) → word_bit us n ≡ a → word_bit ws n ≡ b → bits_below n us ≤ bits_below n ws → bits_below n us + one_if a ≤ bits_below n ws + one_if b
    by_test false b x y le = omega (arith, le)
    by_test true true x y le = omega (arith, le)
    by_test true false x y le = absurd (false≢true (sym y ∙ h n x))

module _ (g : Graph) (rows : HasRows g) (truth : List ℕ) (true_ : AreTrueFacts g truth) where
  abbrev size : ℕ
  size = 64 * length truth

  -- bits of true facts that some words hold
  record AreSeen (us now : List ℕ) : Type 0 where
    long : length us ≡ length truth
    among : (i : ℕ) → word_bit us i ≡ true → word_bit truth i ≡ true
    held : (i : ℕ) → word_bit us i ≡ true → (a : ℕ) × (b : ℕ) × IsFactBit g a b i × HoldsFact g now a b

  seen_kept : (us old now : List ℕ) → ((a b : ℕ) → HoldsFact g old a b → HoldsFact g now a b) → AreSeen us old → AreSeen us now
  seen_kept us old now kept s = record { long = s.long; among = s.among; held = λ i x. let h = s.held i x in (h.0, h.1, h.2, kept h.0 h.1 h.3) }

  -- one more bit is seen: that of a new fact
  module _ (us old now : List ℕ) (s : AreSeen us old) (kept : (a b : ℕ) → HoldsFact g old a b → HoldsFact g now a b) (a b : ℕ) (fact : HoldsFact g now a b) (new : HoldsFact g old a b → ⊥) (t : HoldsFact g truth a b) where
    below : t.bit / 64 < length us
    below = let low = bit_below g rows a b t.bit t.is_bit in let words = true_.words.long in let long = s.long in omega (arith, low, words, long)

    with_bit : (vs : List ℕ) × HasOneMore t.bit us vs × (length vs ≡ length us)
    with_bit = (set us (t.bit / 64) _, bit_set us t.bit (get_or us (t.bit / 64) 0) below refl, length-set us (t.bit / 64) _)

    not_seen : (f : Bool) → word_bit us t.bit ≡ f → word_bit us t.bit ≡ false
    not_seen false e = e
    not_seen true e =
        let h = s.held t.bit e in
        let one = one_fact g rows h.0 h.1 a b t.bit h.2 t.is_bit in
        absurd (new (subst (λ y. HoldsFact g old a y) one.1 (subst (λ x. HoldsFact g old x h.1) one.0 h.3)))

    seen_more : AreSeen with_bit.0 now
    seen_more = record {
      long = with_bit.2 ∙ s.long;
      among = λ i x. elim (or_cases (word_bit us i) (i == t.bit) (sym (with_bit.1 i) ∙ x)) [
        | inl before ↦ s.among i before
        | inr e ↦ (let same : i ≡ t.bit = grind (arith, nat_tests, e) in ap (word_bit truth) same ∙ t.set)
      ];
      held = λ i x. elim (or_cases (word_bit us i) (i == t.bit) (sym (with_bit.1 i) ∙ x)) [
        | inl before ↦ (let h = s.held i before in (h.0, h.1, h.2, kept h.0 h.1 h.3))
        | inr e ↦ (let same : i ≡ t.bit = grind (arith, nat_tests, e) in (a, b, subst (IsFactBit g a b) (sym same) t.is_bit, fact))
      ];
    }

    counted : bits_below size with_bit.0 ≡ bits_below size us + 1
    counted =
        one_counted size t.bit us with_bit.0 with_bit.1 (not_seen (word_bit us t.bit) refl)
        (let low = bit_below g rows a b t.bit t.is_bit in let words = true_.words.long in omega (arith, low, words))

  series_short : (us before : List ℕ) (rounds : List (List ℕ)) → AreSeen us before → IsSeries g before rounds → bits_below size us + length rounds ≤ bits_below size truth + 1
  series_short us before [] s none = let le = bits_among size us truth s.among in omega (arith, le)
  series_short us before (after ∷ []) s (last t kept) = let le = bits_among size us truth s.among in omega (arith, le)
  series_short us before (after ∷ rest) s (more t kept new later) =
      let fact = (true_.exact new.from new.to).1 (t new.from new.to new.now) in
      let step = series_short (with_bit us before after s kept new.from new.to new.now new.not_before fact).0 after rest (seen_more us before after s kept new.from new.to new.now new.not_before fact) later in
      let one = counted us before after s kept new.from new.to new.now new.not_before fact in
      omega (arith, step, one)

  pub few_rounds : (before : List ℕ) (rounds : List (List ℕ)) → IsSeries g before rounds → length rounds ≤ bits_below size truth + 1
  few_rounds before rounds s =
      let us = replicate {A = ℕ} (length truth) 0 in
      let seen : AreSeen us before = record {
        long = length-replicate {A = ℕ} (length truth) 0;
        among = λ i x. absurd (false≢true (sym (no_bits (length truth) i) ∙ x));
        held = λ i x. absurd (false≢true (sym (no_bits (length truth) i) ∙ x));
      } in
      let le = series_short us before rounds seen s in
      omega (arith, le)
