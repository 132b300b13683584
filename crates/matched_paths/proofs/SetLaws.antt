-- What the bit of one more fact changes of the facts that words hold.
use Rattle.std.proofs.Common.{◌≡◌, ℕ, ◌+◌, ◌*◌, ◌⊎◌, inl, inr, false, ◌||◌, ◌==◌, List, length, sym, ap, ◌∙◌, subst, arith}
use Rattle.std.proofs.lemmas.Bool.{or_cases, or_left, or_right}
use Rattle.std.proofs.lemmas.Bool.Decides.{nat_tests}
use Rattle.bit_rows.specs.Words.{word_bit}
use Rattle.dep_model.specs.declared.graph.Graph.{Graph}
use Rattle.dep_model.specs.Facts.{IsFactBit, HoldsFact, AreFactWords}
use Rattle.dep_model.specs.Graphs.{HasRows}
use Rattle.matched_paths.specs.Places.{HasOneMore}
use Rattle.matched_paths.proofs.BitLemmas.{or_none}
use Rattle.matched_paths.proofs.RowPlaces.{one_fact, never_past}

module _ (g : Graph) (rows : HasRows g) (a b bit : ℕ) (is : IsFactBit g a b bit) (old new : List ℕ) (more : HasOneMore bit old new) where
  pub fact_kept : (c d : ℕ) → HoldsFact g old c d → HoldsFact g new c d
  fact_kept c d h = record { bit = h.bit; is_bit = h.is_bit; set = more h.bit ∙ or_left (word_bit old h.bit) (h.bit == bit) h.set }

  pub fact_set : HoldsFact g new a b
  fact_set = record { bit = bit; is_bit = is; set = more bit ∙ or_right (word_bit old bit) (bit == bit) (grind (arith, nat_tests)) }

  pub fact_only : (c d : ℕ) → HoldsFact g new c d → HoldsFact g old c d ⊎ ((c ≡ a) × (d ≡ b))
  fact_only c d h = elim (or_cases (word_bit old h.bit) (h.bit == bit) (sym (more h.bit) ∙ h.set)) [
    | inl t ↦ inl (record { bit = h.bit; is_bit = h.is_bit; set = t })
    | inr e ↦
        let same : h.bit ≡ bit = grind (arith, nat_tests, e) in
        inr (one_fact g rows c d a b bit (subst (IsFactBit g c d) same h.is_bit) is)
  ]

  pub words_kept : length new ≡ length old → AreFactWords g old → AreFactWords g new
  words_kept long w = record {
    long = long ∙ w.long;
    clean = λ r x i c at past inside.
        let other : ((64 * r.word + i) == bit) ≡ false = (let no : 64 * r.word + i ≡ bit → ⊥ = never_past g rows a b bit r x i is c at past inside in grind (arith, nat_tests, no)) in
        more (64 * r.word + i) ∙ ap (λ t. word_bit old (64 * r.word + i) || t) other ∙ or_none (word_bit old (64 * r.word + i)) ∙ w.clean r x i c at past inside;
  }
