-- Texts that are put at the places of their criteria, one after another.
use Rattle.std.proofs.Common.{◌≡◌, ℕ, ◌<◌, ◌++◌, List, [], ◌∷◌, length, get_or, set, inl, inr, sym, subst, arith}
use Rattle.std.proofs.lemmas.Bool.{cases_eq}
use Rattle.std.proofs.lemmas.List.{get_or-set_same, get_or-set_other}
use Rattle.c_tree.specs.declared.program.Program.{Program}
use Rattle.crew.specs.Counts.{Has}
use Rattle.slice_engine.specs.declared.engine.Criterion.{Criterion}
use Rattle.slice_batch.specs.declared.worker.Made.{Made}
use Rattle.slice_engine.specs.Slice.{IsSlice, IsFaithful}
use Rattle.slice_batch.specs.Batch.{Bytes, AreTexts, IsTextOf}
use Rattle.slice_batch.specs.Team.{ArePlaced, IsMade, IsTextAt}
use Rattle.slice_batch.proofs.Seats.{has_either, is_only}

-- a text that is made of a program that equals another is one of that
pub text_made : (p q : Program) (c : Criterion) (t : Bytes) → p ≡ q → IsSlice p c.line t → IsFaithful p c.line t → IsTextOf q c t
text_made p q c t same slice faithful = subst (λ x. IsTextOf x c t) same (record { slice = slice; faithful = faithful })

module _ (p : Program) (list : List Criterion) where
  -- the text that is put stands at its place
  pub put_there : (m : Made) (texts : List Bytes) → IsMade p list m → length texts ≡ length list → IsTextAt p list m.number (get_or (set texts m.number m.text) m.number [])
  put_there m texts made long =
      subst (IsTextAt p list m.number) (sym (get_or-set_same texts m.number m.text [] (omega (arith, made.inside, long)))) made.text

  -- and a text that stood at its place still does, or another of the same criterion
  pub still_there : (m : Made) (texts : List Bytes) (k : ℕ) → IsMade p list m → length texts ≡ length list
      → IsTextAt p list k (get_or texts k []) → IsTextAt p list k (get_or (set texts m.number m.text) k [])
  still_there m texts k made long there = elim (cases_eq k m.number) [
    | inl e ↦ subst (λ j. IsTextAt p list j (get_or (set texts m.number m.text) j [])) (sym e) (put_there m texts made long)
    | inr ne ↦ subst (IsTextAt p list k) (sym (get_or-set_other texts m.number k m.text [] ne)) there
  ]

  pub placed_more : (ks : List ℕ) (m : Made) (texts : List Bytes) → IsMade p list m → length texts ≡ length list
      → ArePlaced p list ks texts → ArePlaced p list (ks ++ m.number ∷ []) (set texts m.number m.text)
  placed_more ks m texts made long placed = λ k h. elim (has_either k ks (m.number ∷ []) h) [
    | inl before ↦ still_there m texts k made long (placed k before)
    | inr here ↦ subst (λ j. IsTextAt p list j (get_or (set texts m.number m.text) j [])) (sym (is_only k m.number here)) (put_there m texts made long)
  ]

  pub placed_both : (a b : List ℕ) (old texts : List Bytes) → ArePlaced p list a old
      → ((k : ℕ) → IsTextAt p list k (get_or old k []) → IsTextAt p list k (get_or texts k []))
      → ArePlaced p list b texts → ArePlaced p list (a ++ b) texts
  placed_both a b old texts before kept now = λ k h. elim (has_either k a b h) [
    | inl x ↦ kept k (before k x)
    | inr y ↦ now k y
  ]

  -- where each number below the count of criteria has its text, all texts are there
  pub all_placed : (ks : List ℕ) (texts : List Bytes) → length texts ≡ length list → ((k : ℕ) → k < length list → Has ks k) → ArePlaced p list ks texts → AreTexts p list texts
  all_placed ks texts long every placed = record { as_many = long; each = λ i c low. placed i (every i low) c }
