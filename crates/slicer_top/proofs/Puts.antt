-- Texts that are put one after another.
use Rattle.std.proofs.Common.{◌≡◌, inl, inr, ℕ, ◌+◌, ◌<◌, ◌≤◌, List, [], ◌∷◌, ◌++◌, length, take, drop, zero, suc, refl, sym, ap, ◌∙◌, subst, arith, add-one, append-nil, append_assoc, slice_index_or}
use Rattle.std.proofs.lemmas.List.{length-append, take_all}
use Rattle.std.proofs.Math.Seq.{take-suc}
use Rattle.std.specs.Prelude.{Option, None, Some}
use Rattle.std.specs.Io.KnownBytes.{append_known}
use Rattle.edge_io.specs.Count.{NeverFalls, Rose}
use Rattle.edge_io.specs.Written.{Gains, GainsFront}
use Rattle.c_language.specs.Words.{Bytes}
use Rattle.slicer_top.specs.Lines.{PutOrCutOff, cannot_write}
use Rattle.slicer_top.specs.Reports.{PutsLine}
use Rattle.slicer_top.specs.Slices.{GainsUpTo, joined, text_at}
use Rattle.slicer_top.specs.declared.status.Status.{Status}
use Rattle.slicer_top.specs.declared.status.Status.TheVariants.{WriteFault}

-- nothing is gained by nothing, and one piece behind another
pub gains_none : (before : Option Bytes) → Gains before before []
gains_none None = refl
gains_none (Some xs) = ap Some (sym (append-nil xs))

pub gains_both : (a b c : Option Bytes) (p q : Bytes) → Gains a b p → Gains b c q → Gains a c (p ++ q)
gains_both None b c p q first second = second ∙ ap (λ o. append_known o q) first
gains_both (Some xs) b c p q first second = second ∙ ap (λ o. append_known o q) first ∙ ap Some (append_assoc xs p q)

joined_last : (ts : List Bytes) (t : Bytes) → joined (ts ++ t ∷ []) ≡ joined ts ++ t
joined_last [] t = append-nil t
joined_last (s ∷ ss) t = ap (λ rest. s ++ rest) (joined_last ss t) ∙ sym (append_assoc s (joined ss) t)

any_default : (xs : List Bytes) (k : ℕ) (d e : Bytes) → k < length xs → slice_index_or xs k d ≡ slice_index_or xs k e
any_default [] k d e lt = absurd (omega (arith, lt))
any_default (x ∷ xs) zero d e lt = refl
any_default (x ∷ xs) (suc k) d e lt = any_default xs k d e (omega (arith, lt))

joined_next : (texts : List Bytes) (i : ℕ) → i < length texts → joined (take (i + 1) texts) ≡ joined (take i texts) ++ text_at texts i
joined_next texts i lt = ap joined (ap (λ n. take n texts) (add-one i) ∙ take-suc texts i [] lt) ∙ joined_last (take i texts) (text_at texts i)

-- one more text
pub gains_next : (a b c : Option Bytes) (texts : List Bytes) (i : ℕ) (t d : Bytes) → i < length texts → t ≡ slice_index_or texts i d → Gains a b (joined (take i texts)) → Gains b c t → Gains a c (joined (take (i + 1) texts))
gains_next a b c texts i t d lt is first second =
    subst (Gains a c) (sym (joined_next texts i lt)) (gains_both a b c (joined (take i texts)) (text_at texts i) first (subst (Gains b c) (is ∙ any_default texts i d [] lt) second))

pub gains_all : (a b : Option Bytes) (texts : List Bytes) (i : ℕ) → length texts ≤ i → Gains a b (joined (take i texts)) → Gains a b (joined texts)
gains_all a b texts i end first = subst (λ ts. Gains a b (joined ts)) (take_all i texts end) first

-- a front of it
pub gains_front : (a b c : Option Bytes) (texts : List Bytes) (i : ℕ) (t d : Bytes) → i < length texts → t ≡ slice_index_or texts i d → Gains a b (joined (take i texts)) → GainsFront b c t → GainsUpTo a c texts
gains_front a b c texts i t d lt is first second = record {
  place = i;
  within = lt;
  count = second.count;
  front = gains_both a b c (joined (take i texts)) (take second.count (text_at texts i)) first
      (subst (λ s. Gains b c (take second.count s)) (is ∙ any_default texts i d [] lt) second.front);
}

-- counts that never fell, and then rose
pub rose_later : (a b c : ℕ) → NeverFalls a b → Rose b c → Rose a c
rose_later a b c le (inl lt) = inl (omega (arith, le, lt))
rose_later a b c le (inr most) = inr most

-- all that a sink takes, and nothing more
pub and_no_more : (T : ℕ → Type 0) (n : ℕ) → T n → T (n + 0)
and_no_more T n h = let same : n ≡ n + 0 = omega arith in subst T same h

-- what a sink takes of the texts that are left
left_next : (texts : List Bytes) (i : ℕ) → i < length texts → length (joined (drop i texts)) ≡ length (text_at texts i) + length (joined (drop (i + 1) texts))
left_next [] i lt = absurd (omega (arith, lt))
left_next (t ∷ ts) zero lt = length-append t (joined ts)
left_next (t ∷ ts) (suc i) lt =
    let more : suc i + 1 ≡ suc (i + 1) = omega arith in
    left_next ts i (omega (arith, lt)) ∙ ap (λ n. length (text_at ts i) + length (joined (drop n (t ∷ ts)))) (sym more)

pub takes_next : (T : ℕ → Type 0) (texts : List Bytes) (i : ℕ) (t d : Bytes) → i < length texts → t ≡ slice_index_or texts i d → T (length (joined (drop i texts))) → T (length t + length (joined (drop (i + 1) texts)))
takes_next T texts i t d lt is takes =
    subst T (left_next texts i lt ∙ ap (λ s. length s + length (joined (drop (i + 1) texts))) (sym (is ∙ any_default texts i d [] lt))) takes

-- a put of `cannot write`
pub fault_told : (e e' : ℕ) (before after : Option Bytes) (result : Status) → PutsLine e e' before after WriteFault cannot_write result → (result ≡ WriteFault) × PutOrCutOff e e' before after cannot_write
fault_told e e' before after result (inl put) = (put.0, inl put.1)
fault_told e e' before after result (inr cut) = (cut.0, inr cut.1)
