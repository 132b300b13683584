-- Words that are cut in two: a word of matched parts is cut between two of them, or inside pairs of letters of one call each.
use Rattle.std.proofs.Common.{ℕ, ◌≡◌, ◌⊎◌, List, [], ◌∷◌, ◌++◌, refl, sym, ap, ◌∙◌, subst, inl, inr, append_assoc}
use Rattle.std.proofs.lemmas.List.{append-nil}
use Rattle.dep_model.specs.Words.{Letter, Open, Close, Matched, Rises, Falls}
use Rattle.dep_model.specs.Words as words

-- ---- one word put together in two ways
pub append_cases : (w x p s : List Letter) → w ++ x ≡ p ++ s → ((t : List Letter) × (w ≡ p ++ t) × (s ≡ t ++ x)) ⊎ ((t : List Letter) × (p ≡ w ++ t) × (x ≡ t ++ s))
append_cases [] x p s e = inr (p, refl, e)
append_cases (a ∷ w) x [] s e = inl (a ∷ w, refl, sym e)
append_cases (a ∷ w) x (b ∷ p) s e =
    let head : a ≡ b = cc in
    let tail : w ++ x ≡ p ++ s = cc in
    elim (append_cases w x p s tail) [
      | inl r ↦ inl (r.0, ap (λ l. l ∷ w) head ∙ ap (λ v. b ∷ v) r.1, r.2)
      | inr r ↦ inr (r.0, sym (ap (λ l. l ∷ p) head) ∙ ap (λ v. a ∷ v) r.1, r.2)
    ]

-- a word of one letter put together of two
one_cases : (l : Letter) (t s : List Letter) → l ∷ [] ≡ t ++ s → ((t ≡ []) × (s ≡ l ∷ [])) ⊎ ((t ≡ l ∷ []) × (s ≡ []))
one_cases l [] s e = inl (refl, sym e)
one_cases l (k ∷ []) s e = inr ((let same : k ≡ l = cc in ap (λ x. x ∷ []) same), cc)
one_cases l (k ∷ m ∷ t) s e = cc

-- ---- a matched word
pub data Cut : List Letter → List Letter → Type 0 where
  level : {p s : List Letter} → Matched p → Matched s → Cut p s
  nested : (c : ℕ) {before p s behind : List Letter} → Matched before → Cut p s → Matched behind → Cut (before ++ Open c ∷ p) (s ++ Close c ∷ behind)

cut_right : {p s x : List Letter} → Cut p s → Matched x → Cut p (s ++ x)
cut_right (level a b) m = level a (words.both b m)
cut_right {x = x} (nested c {before = before} {p = p} {s = s} {behind = behind} a q b) m =
    subst (Cut (before ++ Open c ∷ p)) (sym (append_assoc s (Close c ∷ behind) x)) (nested c a q (words.both b m))

cut_left : {w p s : List Letter} → Matched w → Cut p s → Cut (w ++ p) s
cut_left m (level a b) = level (words.both m a) b
cut_left {w = w} m (nested c {before = before} {p = p} {s = s} {behind = behind} a q b) =
    subst (λ v. Cut v (s ++ Close c ∷ behind)) (append_assoc w before (Open c ∷ p)) (nested c (words.both m a) q b)

cut_empty : (p s : List Letter) → [] ≡ p ++ s → Cut p s
cut_empty [] s e = level words.empty (subst Matched e words.empty)
cut_empty (l ∷ p) s e = cc

cut_pair : (c : ℕ) (w : List Letter) → Matched w → ((p s : List Letter) → w ≡ p ++ s → Cut p s) → (p s : List Letter) → Open c ∷ (w ++ Close c ∷ []) ≡ p ++ s → Cut p s
cut_pair c w m rec [] s e = level words.empty (subst Matched e (words.pair c m))
cut_pair c w m rec (l ∷ p) s e =
    let head : Open c ≡ l = cc in
    let tail : w ++ Close c ∷ [] ≡ p ++ s = cc in
    subst (λ k. Cut (k ∷ p) s) head
    (elim (append_cases w (Close c ∷ []) p s tail) [
      | inl r ↦ subst (Cut (Open c ∷ p)) (sym r.2) (nested c {before = []} {behind = []} words.empty (rec p r.0 r.1) words.empty)
      | inr r ↦ elim (one_cases (Close c) r.0 s r.2) [
        | inl q ↦
            let whole : p ≡ w = r.1 ∙ ap (λ t. w ++ t) q.0 ∙ append-nil w in
            subst (Cut (Open c ∷ p)) (sym q.1) (nested c {before = []} {s = []} {behind = []} words.empty (rec p [] (sym whole ∙ sym (append-nil p))) words.empty)
        | inr q ↦
            let whole : w ++ Close c ∷ [] ≡ p = sym (r.1 ∙ ap (λ t. w ++ t) q.0) in
            level (subst (λ v. Matched (Open c ∷ v)) whole (words.pair c m)) (subst Matched (sym q.1) words.empty)
      ]
    ])

pub cut_matched : {w : List Letter} → Matched w → (p s : List Letter) → w ≡ p ++ s → Cut p s
cut_matched words.empty p s e = cut_empty p s e
cut_matched (words.pair c {w = w} m) p s e = cut_pair c w m (λ q t h. cut_matched m q t h) p s e
cut_matched (words.both {w = w} {x = x} m n) p s e = elim (append_cases w x p s e) [
  | inl r ↦ subst (Cut p) (sym r.2) (cut_right (cut_matched m p r.0 r.1) n)
  | inr r ↦ subst (λ v. Cut v s) (sym r.1) (cut_left m (cut_matched n r.0 s r.2))
]

-- ---- a word that rises, or falls: `K` says which
pub data CutIn (K : List Letter → Type 0) : List Letter → List Letter → Type 0 where
  top : {p s : List Letter} → K p → K s → CutIn K p s
  nested : (c : ℕ) {before p s behind : List Letter} → K before → Cut p s → K behind → CutIn K (before ++ Open c ∷ p) (s ++ Close c ∷ behind)

module _ (K : List Letter → Type 0) (flat : K []) (add : (w x : List Letter) → Matched w → K x → K (w ++ x)) where
  alone : {w : List Letter} → Matched w → K w
  alone {w = w} m = subst K (append-nil w) (add w [] m flat)

  front_in : {p t x : List Letter} → Cut p t → K x → CutIn K p (t ++ x)
  front_in {t = t} {x = x} (level a b) k = top (alone a) (add t x b k)
  front_in {x = x} (nested c {before = before} {p = p} {s = s} {behind = behind} a q b) k =
      subst (CutIn K (before ++ Open c ∷ p)) (sym (append_assoc s (Close c ∷ behind) x)) (nested c (alone a) q (add behind x b k))

  back_in : {w t s : List Letter} → Matched w → CutIn K t s → CutIn K (w ++ t) s
  back_in {w = w} {t = t} m (top a b) = top (add w t m a) b
  back_in {w = w} m (nested c {before = before} {p = p} {s = s} {behind = behind} a q b) =
      subst (λ v. CutIn K v (s ++ Close c ∷ behind)) (append_assoc w before (Open c ∷ p)) (nested c (add w before m a) q b)

  empty_in : (p s : List Letter) → [] ≡ p ++ s → CutIn K p s
  empty_in [] s e = top flat (subst K e flat)
  empty_in (l ∷ p) s e = cc

  level_in : {w x : List Letter} → Matched w → K x → ((p s : List Letter) → x ≡ p ++ s → CutIn K p s) → (p s : List Letter) → w ++ x ≡ p ++ s → CutIn K p s
  level_in {w = w} {x = x} m k rec p s e = elim (append_cases w x p s e) [
    | inl r ↦ subst (CutIn K p) (sym r.2) (front_in (cut_matched m p r.0 r.1) k)
    | inr r ↦ subst (λ v. CutIn K v s) (sym r.1) (back_in m (rec r.0 s r.2))
  ]

  module _ (l : Letter) (step : (x : List Letter) → K x → K (l ∷ x)) where
    after_letter : {p s : List Letter} → CutIn K p s → CutIn K (l ∷ p) s
    after_letter (top {p = p} a b) = top (step p a) b
    after_letter (nested c {before = before} a q b) = nested c {before = l ∷ before} (step before a) q b

    letter_in : {x : List Letter} → K x → ((p s : List Letter) → x ≡ p ++ s → CutIn K p s) → (p s : List Letter) → l ∷ x ≡ p ++ s → CutIn K p s
    letter_in {x = x} k rec [] s e = top flat (subst K e (step x k))
    letter_in {x = x} k rec (j ∷ p) s e =
        let head : l ≡ j = cc in
        let tail : x ≡ p ++ s = cc in
        subst (λ i. CutIn K (i ∷ p) s) head (after_letter (rec p s tail))

pub cut_rises : {w : List Letter} → Rises w → (p s : List Letter) → w ≡ p ++ s → CutIn Rises p s
cut_rises words.flat p s e = empty_in Rises words.flat (λ v x a b. words.level {w = v} {x = x} a b) p s e
cut_rises (words.level m r) p s e = level_in Rises words.flat (λ v x a b. words.level {w = v} {x = x} a b) m r (λ q t h. cut_rises r q t h) p s e
cut_rises (words.close c r) p s e = letter_in Rises words.flat (λ v x a b. words.level {w = v} {x = x} a b) (Close c) (λ x k. words.close c {x = x} k) r (λ q t h. cut_rises r q t h) p s e

pub cut_falls : {w : List Letter} → Falls w → (p s : List Letter) → w ≡ p ++ s → CutIn Falls p s
cut_falls words.flat p s e = empty_in Falls words.flat (λ v x a b. words.level {w = v} {x = x} a b) p s e
cut_falls (words.level m r) p s e = level_in Falls words.flat (λ v x a b. words.level {w = v} {x = x} a b) m r (λ q t h. cut_falls r q t h) p s e
cut_falls (words.open_ c r) p s e = letter_in Falls words.flat (λ v x a b. words.level {w = v} {x = x} a b) (Open c) (λ x k. words.open_ c {x = x} k) r (λ q t h. cut_falls r q t h) p s e

-- ---- words one behind the other
pub rises_append : {w x : List Letter} → Rises w → Rises x → Rises (w ++ x)
rises_append words.flat r = r
rises_append {x = x} (words.level {w = v} {x = y} m q) r = subst Rises (sym (append_assoc v y x)) (words.level m (rises_append q r))
rises_append (words.close c q) r = words.close c (rises_append q r)

pub falls_append : {w x : List Letter} → Falls w → Falls x → Falls (w ++ x)
falls_append words.flat r = r
falls_append {x = x} (words.level {w = v} {x = y} m q) r = subst Falls (sym (append_assoc v y x)) (words.level m (falls_append q r))
falls_append (words.open_ c q) r = words.open_ c (falls_append q r)

pub matched_rises : {w : List Letter} → Matched w → Rises w
matched_rises {w = w} m = subst Rises (append-nil w) (words.level m words.flat)

pub matched_falls : {w : List Letter} → Matched w → Falls w
matched_falls {w = w} m = subst Falls (append-nil w) (words.level m words.flat)
